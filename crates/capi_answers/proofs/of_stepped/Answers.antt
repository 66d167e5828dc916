use mir.Val.{bool_byte}
use Rattle.std.proofs.Common.{◌≡◌, Bool, true, false, refl}
use Rattle.base.specs.Bits.{when_of}
use Rattle.capi_answers.proofs.of_stepped.Goals as goal

as_number : (t : Bool) → bool_byte t ≡ when_of t 1
as_number true = refl
as_number false = refl

pub returns : goal.returns
returns c =
    rw (c.from.ensures, c.from-2.ensures, as_number c.args.s.usb_frame, as_number c.args.s.wdt, c.of_half.ensures, c.of_byte.ensures)

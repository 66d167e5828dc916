-- F10: "Where an answer is an enum, a definition gives this paper's number and values for each of the enum's cases." Those definitions lose nothing: no two answers are told alike.
use Rattle.std.specs.Prelude.{◌≡◌, ℕ, Option}
use Rattle.audio.specs.Told.{told_half}
use Rattle.audio.specs.declared.Half.{Half}
use Rattle.base.specs.Told.{Told}
use Rattle.irq.specs.Told.{told_choice}
use Rattle.irq.specs.declared.Choice.{Choice}
use Rattle.names.specs.Told.{told_id}
use Rattle.p33.specs.Told.{told_event}
use Rattle.p33.specs.declared.Event.{Event}
use Rattle.records.specs.Decoded.{TimedAt, RecordAt}
use Rattle.records.specs.Told.{told_timed, told_record, told_wrote}
use Rattle.regs.specs.Told.{told_value}
use Rattle.uart.specs.Told.{told_byte}
use Rattle.uart.specs.declared.Byte.{Byte}

-- equal words are of equal answers
abbrev pub Apart : (A : Type 0) → (A → Told) → Type 0
Apart A tell = (x y : A) → tell x ≡ tell y → x ≡ y

pub record ToldApart : Type 0 where
  pub ids : Apart (Option ℕ) told_id
  pub choices : Apart (Option Choice) told_choice
  pub values : Apart (Option ℕ) told_value
  pub halves : Apart (Option Half) told_half
  pub bytes : Apart (Option Byte) told_byte
  pub events : Apart (Option Event) told_event
  pub timed : Apart TimedAt told_timed
  pub records : Apart RecordAt told_record
  pub wrote : Apart (Option ℕ) told_wrote

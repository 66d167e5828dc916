-- "8 RECORD: a record breaks the layout": the number of what decoding answers is 8 exactly where bytes are left and they break it.
use mathlib.Core.Path.{◌≡◌, refl, ap, ◌∙◌}
use mathlib.Core.Bool.{Bool, true, false, cond, not, ◌&&◌}
use mathlib.Core.List.{List}
use mathlib.Core.Logic.{◌⊎◌, inl, inr}
use Prim.Native.Nat.{ℕ, ◌+◌, ◌<◌}
use native.Mathlib.Omega.{arith}
use borrow.Author.Tests.{eqb-true, eqb-false}
use lib.Dec.{eqb}
use lib.ListN.{length}
use Rattle.base.specs.Refusals.{RECORD}
use Rattle.records.specs.Layout.{is_timed, is_order, length_of, kind_in, time_in, action_in, breaks_layout, whole_kind}
use Rattle.records.specs.Decoded.{timed_of, any_of, record_of, timed_at, broken_at}
use Rattle.records.specs.Told.{told_timed, told_record}
use Rattle.records.proofs.Kept.{Kept, kept}
use Rattle.records.proofs.NineKinds.{known, known-sorted}
use Rattle.records.proofs.Progress.{any-empty-end, breaks-broken}
use Rattle.records.proofs.RoundTrip.{timed-decodes, order-decodes, any-decodes}
use Rattle.std.specs.Prelude.{None, Ok}

module _ (s : List ℕ) (at : ℕ) where
  kept-number : Kept s → (is_timed (kind_in s) ≡ true) ⊎ (is_order (kind_in s) ≡ true) → (told_record (record_of s at)).number ≡ 0
  unfolding told_record
  kept-number k (inl t) = rw (any-decodes s at k t ∙ ap any_of (timed-decodes s at k t))
  kept-number k (inr o) = rw (order-decodes s at k o)

  -- as the driver reads
  pub record-number : eqb (told_record (record_of s at)).number RECORD ≡ (not (eqb (length s) 0) && breaks_layout s)
  unfolding told_record
  record-number = go (eqb (length s) 0) (breaks_layout s) refl refl
    where
      left : eqb (length s) 0 ≡ false → 0 < length s
      left e = let h = eqb-false (length s) 0 e in omega (arith, h)

      go : (z b : Bool) → eqb (length s) 0 ≡ z → breaks_layout s ≡ b → eqb (told_record (record_of s at)).number RECORD ≡ (not z && b)
      go true b e f = rw (any-empty-end s at (eqb-true (length s) 0 e))
      go false true e f = rw (breaks-broken s at (left e) f)
      go false false e f = rw (kept-number (kept s f) (known-sorted (known (kind_in s) (kept s f).known)))

  -- where only actions are looked for: 8 too where the bytes are one of the driver's own kinds
  pub timed-number : eqb (told_timed (timed_of s at)).number RECORD ≡ (not (eqb (length s) 0) && not (is_timed (whole_kind s)))
  unfolding told_timed timed_of
  timed-number = go (eqb (length s) 0) (is_timed (whole_kind s))
    where
      go : (z t : Bool) → eqb (told_timed (cond z (Ok None) (cond t (timed_at (time_in s) (action_in (whole_kind s) s) (at + length_of (whole_kind s))) (broken_at at)))).number RECORD ≡ (not z && not t)
      go true t = refl
      go false true = refl
      go false false = refl

-- Records written out: document 01's worked example, and one break of the layout of each kind.
use mathlib.Core.Path.{◌≡◌, refl}
use mathlib.Core.Bool.{true}
use mathlib.Core.List.{[], ◌∷◌}
use Rattle.records.specs.Le.{le, unle}
use Rattle.records.specs.Layout.{length_of, bytes_of_timed, bytes_of_order, action_in, order_in, whole_kind}
use Rattle.records.specs.Decoded.{timed_of, record_of, timed_at, order_at, broken_at}
use Rattle.records.specs.declared.Action.TheVariants.{Key}
use Rattle.records.specs.declared.Order.TheVariants.{Read, Write, Step}

-- "Input write 0x10800 = 1, step 100, read 0x10804"
write-1 : bytes_of_order (Write 0x10800 1) ≡ 12 ∷ 0 ∷ 2 ∷ 1 ∷ 0 ∷ 8 ∷ 1 ∷ 0 ∷ 1 ∷ 0 ∷ 0 ∷ 0 ∷ []
unfolding bytes_of_order length_of le
write-1 = refl

step-100 : bytes_of_order (Step 100) ≡ 12 ∷ 0 ∷ 3 ∷ 1 ∷ 100 ∷ 0 ∷ 0 ∷ 0 ∷ 0 ∷ 0 ∷ 0 ∷ 0 ∷ []
unfolding bytes_of_order length_of le
step-100 = refl

read_count : bytes_of_order (Read 0x10804) ≡ 8 ∷ 0 ∷ 1 ∷ 1 ∷ 4 ∷ 8 ∷ 1 ∷ 0 ∷ []
unfolding bytes_of_order length_of le
read_count = refl

-- Key 14 goes down at cycle 513
key-down : bytes_of_timed 513 (Key 14 true) ≡ 14 ∷ 0 ∷ 1 ∷ 0 ∷ 1 ∷ 2 ∷ 0 ∷ 0 ∷ 0 ∷ 0 ∷ 0 ∷ 0 ∷ 14 ∷ 1 ∷ []
unfolding bytes_of_timed length_of le
key-down = refl

key-decoded : timed_of (14 ∷ 0 ∷ 1 ∷ 0 ∷ 1 ∷ 2 ∷ 0 ∷ 0 ∷ 0 ∷ 0 ∷ 0 ∷ 0 ∷ 14 ∷ 1 ∷ 99 ∷ []) 5 ≡ timed_at 513 (Key 14 true) 19
unfolding timed_of whole_kind length_of action_in unle
key-decoded = refl

three-bytes : record_of (14 ∷ 0 ∷ 1 ∷ []) 5 ≡ broken_at 5
unfolding record_of timed_of whole_kind length_of unle
three-bytes = refl

kind-260 : record_of (12 ∷ 0 ∷ 4 ∷ 1 ∷ 0 ∷ 0 ∷ 0 ∷ 0 ∷ 0 ∷ 0 ∷ 0 ∷ 0 ∷ []) 5 ≡ broken_at 5
unfolding record_of timed_of whole_kind length_of unle
kind-260 = refl

too_long : record_of (9 ∷ 0 ∷ 1 ∷ 1 ∷ 4 ∷ 8 ∷ 1 ∷ 0 ∷ 0 ∷ []) 5 ≡ broken_at 5
unfolding record_of timed_of whole_kind length_of unle
too_long = refl

cut_off : record_of (8 ∷ 0 ∷ 1 ∷ 1 ∷ 4 ∷ 8 ∷ 1 ∷ []) 5 ≡ broken_at 5
unfolding record_of timed_of whole_kind length_of unle
cut_off = refl

down-2 : record_of (14 ∷ 0 ∷ 1 ∷ 0 ∷ 1 ∷ 2 ∷ 0 ∷ 0 ∷ 0 ∷ 0 ∷ 0 ∷ 0 ∷ 14 ∷ 2 ∷ []) 5 ≡ broken_at 5
unfolding record_of timed_of whole_kind length_of unle
down-2 = refl

-- a read is an order to the driver, and no action
read-decoded : record_of (8 ∷ 0 ∷ 1 ∷ 1 ∷ 4 ∷ 8 ∷ 1 ∷ 0 ∷ []) 5 ≡ order_at (Read 0x10804) 13
unfolding record_of whole_kind length_of order_in unle
read-decoded = refl

read-no-action : timed_of (8 ∷ 0 ∷ 1 ∷ 1 ∷ 4 ∷ 8 ∷ 1 ∷ 0 ∷ []) 5 ≡ broken_at 5
unfolding timed_of whole_kind length_of unle
read-no-action = refl

-- The buffer through which the input streams.
use Rattle.std.specs.Prelude.{ℕ, ◌-◌, ◌≤◌, ◌<◌, Bool, true, false, List, ◌≡◌, length, take, drop}

-- the bytes that were read and not yet passed
abbrev pub unread_of : List ℕ → ℕ → ℕ → List ℕ
unread_of input at len = take (len - at) (drop at input)

-- What feeding leaves, where nothing can be said of the bytes that a read gives: those that were there come first, and, unless nothing more is to be read, as many are there as a record may have. It is the last time only
-- where a read gave fewer bytes than there was room for, and then stays so.
pub record Fed (input : List ℕ) (at len : ℕ) (last : Bool) (input' : List ℕ) (at' len' : ℕ) (last' : Bool) : Type 0 where
  pub order : at' ≤ len'
  pub within : len' ≤ length input'
  pub kept : take (len - at) (unread_of input' at' len') ≡ unread_of input at len
  pub whole : last' ≡ false → 17 ≤ len' - at'
  pub ends : last' ≡ true → last ≡ false → len' < length input'
  pub still : last ≡ true → (len' - at' ≡ len - at) × (last' ≡ true)

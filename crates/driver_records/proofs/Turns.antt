-- A turn of the loop over the bytes: the lines that were put, and those that are still to come, stay those of the whole.
use mathlib.Core.Path.{◌≡◌, refl, sym, ◌∙◌, ap}
use mathlib.Core.Bool.{Bool, true, false, cond, ◌||◌}
use mathlib.Core.List.{List, [], ◌++◌, append-nil, append_assoc}
use Prim.Native.Nat.{ℕ, ◌+◌, ◌-◌, ◌≤◌, ◌<◌}
use native.Mathlib.Nat.{add-zero}
use native.Mathlib.Omega.{arith}
use borrow.Author.Tests.{leb-true}
use lib.Dec.{leb}
use lib.ListN.{length, take, drop, length-append, length-drop}
use lib.Seq.{length-take-le, take_at, drop-append-le, drop-drop}
use Rattle.base.proofs.Flags.{both}
use Rattle.std.specs.Prelude.{Some, None, Ok, Err}
use Rattle.records.specs.Decoded.{RecordAt, record_of}
use Rattle.records.proofs.Alike.{record-alike, moved, record-moved}
use Rattle.records.proofs.Progress.{record-next, any-broken-here}
use Rattle.text.specs.Putting.{place_after_all, put_all}
use Rattle.text.proofs.Putter.{put-all-length, put-all-fits, place-fits}
use Rattle.driver_carry.specs.Carry.{Bench, BenchOk, answer_of, after}
use Rattle.driver_carry.specs.declared.Answer.{Answer}
use Rattle.driver_carry.specs.declared.Answer.TheVariants.{Broken as BrokenAnswer}
use Rattle.driver_lines.specs.Lines.{line_of}
use Rattle.driver_lines.proofs.Short.{line-short}
use Rattle.driver_records.specs.Records.{next_of, left_of, lines_from, told_at, goes_on, to_come, Lined}
use Rattle.driver_records.proofs.Lines.{lines-by, lines_none}

-- ---- what the test says

record On (ended : Bool) (left : ℕ) (last : Bool) (room : ℕ) : Type 0 where
  going : ended ≡ false
  line : 116 ≤ room
  whole : last ≡ false → 17 ≤ left

or_right : (a b : Bool) → (a || b) ≡ true → a ≡ false → b ≡ true
or_right true b e f = cc
or_right false b e f = e

facts : (ended : Bool) (left : ℕ) (last : Bool) (room : ℕ) → goes_on ended left last room ≡ true → On ended left last room
facts true left last room e = absurd (let q : ◌≡◌ {A = ℕ} 0 1 = cc in omega arith)
facts false left last room e =
    let (r, w) = both (leb 116 room) (last || leb 17 left) e in
    record { going = refl; line = leb-true 116 room r; whole = λ l. leb-true 17 left (or_right last (leb 17 left) w l) }

-- the turns that are left at most
abbrev pub turns_left : Bool → ℕ → ℕ → ℕ
turns_left ended n at = cond ended 0 (1 + (n - at))

-- ---- a record as the input has it, `base` bytes further on: as it is told

module _ (h : Bench) (base at : ℕ) where
  same_answer_lem : (s : List ℕ) (r : RecordAt) → record_of s at ≡ r → answer_of h (moved base r) ≡ answer_of h (told_at r (base + at))
  same_answer_lem s (Ok (Some r)) e = refl
  same_answer_lem s (Ok None) e = refl
  same_answer_lem s (Err b) e = ap (λ (k : ℕ). BrokenAnswer (base + k)) (any-broken-here s at b.at e)

  same_after : (r : RecordAt) → after h (moved base r) ≡ after h (told_at r (base + at))
  same_after (Ok (Some r)) = refl
  same_after (Ok None) = refl
  same_after (Err b) = refl

  next-moved : (r : RecordAt) → next_of (moved base r) (base + at) ≡ base + next_of r at
  next-moved (Ok (Some r)) = refl
  next-moved (Ok None) = refl
  next-moved (Err b) = refl

  next-told : (r : RecordAt) → next_of (told_at r (base + at)) at ≡ next_of r at
  next-told (Ok (Some r)) = refl
  next-told (Ok None) = refl
  next-told (Err b) = refl

module _ (h₀ : Bench) (bytes : List ℕ) (base : ℕ) (last : Bool) where
  pub begins : (out : List ℕ) → BenchOk h₀ → Lined h₀ bytes base last h₀ 0 out 0 false
  begins out ok = record {
    lines = λ rest none. ap (λ (n : ℕ). lines_from h₀ (bytes ++ rest) n) (add-zero base);
    known = ok;
    within = omega arith;
    room = omega arith;
  }

  module _ (h : Bench) (at : ℕ) (out : List ℕ) (put : ℕ) (ended : Bool) (inv : Lined h₀ bytes base last h at out put ended)
      (on : goes_on ended (length bytes - at) last (length out - put) ≡ true) where
    fact : On ended (length bytes - at) last (length out - put)
    fact = facts ended (length bytes - at) last (length out - put) on

    before : (rest : List ℕ) → (last ≡ true → rest ≡ []) → take put out ++ lines_from h (drop at bytes ++ rest) (base + at) ≡ lines_from h₀ (bytes ++ rest) base
    before rest none =
        ap (λ (b : Bool). take put out ++ to_come b h (drop at bytes ++ rest) (base + at)) (sym fact.going) ∙ inv.lines rest none

    -- what is found here is what the whole input has here
    found-is : (t : Bool) → last ≡ t → (rest : List ℕ) → (last ≡ true → rest ≡ [])
        → record_of (drop at bytes ++ rest) (base + at) ≡ moved base (record_of (drop at bytes) at)
    found-is true is rest none =
        ap (λ (l : List ℕ). record_of (drop at bytes ++ l) (base + at)) (none is)
        ∙ ap (λ (l : List ℕ). record_of l (base + at)) (append-nil (drop at bytes))
        ∙ record-moved (drop at bytes) base at
    found-is false is rest none =
        let enough : 17 ≤ length (drop at bytes) = simp length-drop (fact.whole is) in
        record-alike (drop at bytes) rest enough (base + at) ∙ record-moved (drop at bytes) base at

    left_is : (next : ℕ) → at ≤ next → next ≤ length bytes → (rest : List ℕ) → drop (base + next - (base + at)) (drop at bytes ++ rest) ≡ drop next bytes ++ rest
    left_is next p q rest =
        let n : base + next - (base + at) ≡ next - at = omega arith in
        let l : next - at ≤ length (drop at bytes) = simp length-drop (omega arith) in
        let m : at + (next - at) ≡ next = omega arith in
        ap (λ (k : ℕ). drop k (drop at bytes ++ rest)) n
        ∙ drop-append-le (next - at) (drop at bytes) rest l
        ∙ ap (λ (x : List ℕ). x ++ rest) (drop-drop (next - at) at bytes ∙ ap (λ (k : ℕ). drop k bytes) m)

    left-moved : (r : RecordAt) → record_of (drop at bytes) at ≡ r → (next_of r at ≡ at → ⊥) → (rest : List ℕ)
        → left_of (moved base r) (base + at) (drop at bytes ++ rest) ≡ drop (next_of r at) bytes ++ rest
    left-moved (Ok (Some r)) e new rest = let p = record-next bytes at r e in left_is r.next (omega arith) p.1 rest
    left-moved (Ok None) e new rest = absurd (new refl)
    left-moved (Err b) e new rest = absurd (new refl)

    further : (r : RecordAt) → record_of (drop at bytes) at ≡ r → (next_of r at ≡ at → ⊥) → (at < next_of r at) × (next_of r at ≤ length bytes)
    further (Ok (Some r)) e new = let p = record-next bytes at r e in (omega arith, p.1)
    further (Ok None) e new = absurd (new refl)
    further (Err b) e new = absurd (new refl)

    -- behind a broken record, and at the end, nothing comes
    nothing_left : (r : RecordAt) → record_of (drop at bytes) at ≡ r → next_of r at ≡ at → (s : List ℕ) → left_of (moved base r) (base + at) s ≡ []
    nothing_left (Ok (Some r)) e same s = let p = record-next bytes at r e in absurd (omega arith)
    nothing_left (Ok None) e same s = refl
    nothing_left (Err b) e same s = refl

    pub sooner-ended : 0 < turns_left ended (length bytes) at
    sooner-ended = rw fact.going (omega arith)

    -- what was found, as it was told; where the next record begins; what was carried out; and the line that was put
    module _ (r : RecordAt) (e : r ≡ record_of (drop at bytes) at) (found : RecordAt) (f : found ≡ told_at r (base + at)) (next : ℕ) (n : next ≡ next_of found at)
        (h' : Bench) (is : h' ≡ after h found) (ok : BenchOk h') (a : Answer) (answered : a ≡ answer_of h found)
        (out' : List ℕ) (put' : ℕ) (p : (put' ≡ place_after_all (length out) put (line_of a)) × (out' ≡ put_all out put (line_of a))) where
      fits : put + length (line_of a) ≤ length out
      fits = omega (arith, line-short a, fact.line)

      place_is : put' ≡ put + length (line_of a)
      place_is = p.0 ∙ place-fits (length out) put (line_of a) fits

      long : length out' ≡ length out
      long = ap length p.1 ∙ put-all-length out put (line_of a)

      put_is : take put' out' ≡ take put out ++ line_of a
      put_is =
          ap (λ (k : ℕ). take k out') place_is
          ∙ ap (λ (l : List ℕ). take (put + length (line_of a)) l) (p.1 ∙ put-all-fits out put (line_of a) fits)
          ∙ take_at (take put out ++ line_of a) (drop (put + length (line_of a)) out) (put + length (line_of a))
          (length-append (take put out) (line_of a) ∙ ap (λ (k : ℕ). k + length (line_of a)) (length-take-le put out (omega (arith, fits))))

      room : put' ≤ length out'
      room = omega (arith, place_is, long, fits)

      next-is : next ≡ next_of r at
      next-is = n ∙ ap (λ (x : RecordAt). next_of x at) f ∙ next-told h base at r

      -- the lines of what is left begin with the one that was put
      first-line : (rest : List ℕ) → (last ≡ true → rest ≡ [])
          → lines_from h (drop at bytes ++ rest) (base + at)
          ≡ line_of a ++ lines_from h' (left_of (moved base r) (base + at) (drop at bytes ++ rest)) (next_of (moved base r) (base + at))
      first-line rest none =
          lines-by h (drop at bytes ++ rest) (base + at) (moved base r) (found-is last refl rest none ∙ ap (moved base) (sym e))
          ∙ ap (λ (x : Answer). line_of x ++ lines_from (after h (moved base r)) (left_of (moved base r) (base + at) (drop at bytes ++ rest)) (next_of (moved base r) (base + at)))
          (same_answer_lem h base at (drop at bytes) r (sym e) ∙ sym (answered ∙ ap (answer_of h) f))
          ∙ ap (λ (x : Bench). line_of a ++ lines_from x (left_of (moved base r) (base + at) (drop at bytes ++ rest)) (next_of (moved base r) (base + at)))
          (same_after h base at r ∙ sym (is ∙ ap (after h) f))

      module _ (new : next ≡ at → ⊥) where
        passes : next_of r at ≡ at → ⊥
        passes q = new (next-is ∙ q)

        then : (rest : List ℕ) → (last ≡ true → rest ≡ [])
            → lines_from h (drop at bytes ++ rest) (base + at) ≡ line_of a ++ lines_from h' (drop next bytes ++ rest) (base + next)
        then rest none =
            first-line rest none
            ∙ ap (λ (x : List ℕ). line_of a ++ lines_from h' x (next_of (moved base r) (base + at))) (left-moved r (sym e) passes rest)
            ∙ ap (λ (x : ℕ). line_of a ++ lines_from h' (drop (next_of r at) bytes ++ rest) x) (next-moved h base at r)
            ∙ ap (λ (x : ℕ). line_of a ++ lines_from h' (drop x bytes ++ rest) (base + x)) (sym next-is)

        pub sooner : turns_left ended (length bytes) next < turns_left ended (length bytes) at
        sooner = let g = further r (sym e) passes in let i = next-is in rw fact.going (omega arith)

        pub goes_on_lem : Lined h₀ bytes base last h' next out' put' ended × (length out' ≡ length out)
        goes_on_lem =
            let g = further r (sym e) passes in
            let within : next ≤ length bytes = omega (arith, next-is) in (
              record {
                lines = λ rest none.
                    ap (λ (b : Bool). take put' out' ++ to_come b h' (drop next bytes ++ rest) (base + next)) fact.going
                    ∙ ap (λ (l : List ℕ). l ++ lines_from h' (drop next bytes ++ rest) (base + next)) put_is
                    ∙ append_assoc (take put out) (line_of a) (lines_from h' (drop next bytes ++ rest) (base + next))
                    ∙ ap (λ (l : List ℕ). take put out ++ l) (sym (then rest none))
                    ∙ before rest none;
                known = ok;
                within = within;
                room = room;
              },
              long,
            )

      module _ (same : next ≡ at) where
        last_line : (rest : List ℕ) → (last ≡ true → rest ≡ []) → lines_from h (drop at bytes ++ rest) (base + at) ≡ line_of a
        last_line rest none =
            first-line rest none
            ∙ ap (λ (x : List ℕ). line_of a ++ lines_from h' x (next_of (moved base r) (base + at))) (nothing_left r (sym e) (sym next-is ∙ same) (drop at bytes ++ rest))
            ∙ ap (λ (l : List ℕ). line_of a ++ l) (lines_none h' (next_of (moved base r) (base + at)))
            ∙ append-nil (line_of a)

        pub ends : Lined h₀ bytes base last h' at out' put' true × (length out' ≡ length out)
        ends = (
          record {
            lines = λ rest none.
                append-nil (take put' out')
                ∙ put_is
                ∙ ap (λ (l : List ℕ). take put out ++ l) (sym (last_line rest none))
                ∙ before rest none;
            known = ok;
            within = inv.within;
            room = room;
          },
          long,
        )

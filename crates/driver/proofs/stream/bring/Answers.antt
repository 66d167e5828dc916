use Rattle.std.proofs.Common.{◌≡◌, ℕ, ◌+◌, ◌-◌, ◌≤◌, List, sym, ◌∙◌, ap, length, take, drop, length-drop, arith}
use Rattle.std.proofs.Math.Seq.{paste}
use Rattle.std.proofs.lemmas.List.Edits.{take-paste}
use Rattle.driver.proofs.stream.bring.Goals as goal

pub returns : goal.returns
returns c =
    let a = c.args in
    let s = drop a.from a.input.now in
    let many : a.from + a.n - a.from ≡ a.n = omega arith in
    let whole : 0 + a.n ≡ a.n = omega arith in
    let there : a.n ≤ length s = simp length-drop (omega (arith, c.requires)) in
    ap (λ (l : List ℕ). take a.n l) (c.copy_within.ensures.after ∙ ap (λ (k : ℕ). paste a.input.now 0 s k) many)
    ∙ ap (λ (k : ℕ). take k (paste a.input.now 0 s a.n)) (sym whole)
    ∙ take-paste a.input.now 0 s a.n (omega arith) there

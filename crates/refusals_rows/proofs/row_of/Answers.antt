use mathlib.Core.Path.{refl, sym, ◌∙◌}
use Rattle.std.specs.Str.{bytes_eq}
use Rattle.text.proofs.Rows.{row-found}
use Rattle.refusals_rows.proofs.Bounded.{bounded}
use Rattle.refusals_rows.specs.Rows.{row_of}
use Rattle.refusals_rows.specs.declared.TheConstants.{FIELDS}
use Rattle.refusals_rows.proofs.row_of.Goals as goal

pub returns-clause-value : goal.returns-clause-value
unfolding row_of
returns-clause-value c = rw row-found at c.find.ensures

pub returns-clause-bounded : goal.returns-clause-bounded
returns-clause-bounded c =
    λ k e. bounded (λ row. bytes_eq row.0.now c.args.name.now) 48 k FIELDS refl (sym (rw row-found at c.find.ensures) ∙ e)

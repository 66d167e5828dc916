use Rattle.text.proofs.HexPairs.{pairs-digits, dash, no_bytes, no_room_lem, room, pairs-length}
use borrow.Author.Rules.{rules}
use mathlib.Core.Path.{sym, ◌∙◌}
use Rattle.text.proofs.unhex.Goals as goal

pub returns-then-is_dash : goal.returns-then-is_dash
returns-then-is_dash c = let both = dash c.args.s.now c.args.out.now (sym c.is_dash.ensures ∙ c.if-is_dash.true) in record { answer = both.0; bytes = both.1 }

pub returns-then-not-is_pairs : goal.returns-then-not-is_pairs
returns-then-not-is_pairs c = let both = no_bytes c.args.s.now c.args.out.now (sym c.is_dash.ensures ∙ c.if-is_dash.false) (sym c.is_pairs.ensures ∙ search rules) in record { answer = both.0; bytes = both.1 }

pub returns-then-out-n : goal.returns-then-out-n
returns-then-out-n c = let both = no_room_lem c.args.s.now c.args.out.now (sym c.is_dash.ensures ∙ c.if-is_dash.false) (sym c.is_pairs.ensures ∙ search rules) c.if-out-n.true in record { answer = both.0; bytes = both.1 }

pub write_pairs-requires : goal.write_pairs-requires
write_pairs-requires c =
    record {
      s_value = pairs-digits c.args.s.now (sym c.is_pairs.ensures ∙ search rules);
      s_in_bounds = rw pairs-length c.if-out-n.false;
    }

pub returns : goal.returns
returns c =
    let p = room c.args.s.now c.args.out.now (sym c.is_dash.ensures ∙ c.if-is_dash.false) (sym c.is_pairs.ensures ∙ search rules) c.if-out-n.false in
    record {
      answer = p.0;
      bytes = c.write_pairs.ensures ∙ p.1;
    }

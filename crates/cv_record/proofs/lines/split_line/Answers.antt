use Rattle.std.proofs.Common.{◌+◌, ◌-◌, ◌∷◌, ◌++◌, List, ℕ, length, take, drop, sym, ap, ◌∙◌, arith}
use Rattle.std.proofs.lemmas.List.{length-drop, take_all}
use Rattle.cv_record.proofs.FirstLines.{no_feed, split_there}
use Rattle.cv_record.proofs.lines.split_line.Goals as goal

pub returns-in_err-at : goal.returns-in_err-at
returns-in_err-at c = rw c.from_residual.ensures (no_feed c.args.bytes.now (sym c.in_err-at.ensures.value))

pub returns : goal.returns
returns c =
    let s = split_there c.args.bytes.now c.in_ok-at.at (sym c.in_ok-at.ensures.value) in
    let rest = drop (c.in_ok-at.at + 1) c.args.bytes.now in
    (s.0, s.1 ∙ ap (λ (l : List ℕ). take c.in_ok-at.at c.args.bytes.now ++ 10 ∷ l) (sym (take_all (length c.args.bytes.now - (c.in_ok-at.at + 1)) rest (omega (arith, length-drop (c.in_ok-at.at + 1) c.args.bytes.now)))))

use Rattle.std.proofs.Common.{◌≡◌, None, sym, ap, ◌∙◌}
use Rattle.cv_token.specs.Reading.{tree_of}
use Rattle.cv_token.proofs.Answered.{none-NoTree}
use Rattle.cv_token.proofs.Round.{tree_of-spelling}
use Rattle.cv_token.proofs.reading.read_tree.Goals as goal

pub returns-in-Ok-clause-again : goal.returns-in-Ok-clause-again
returns-in-Ok-clause-again c = λ t h e. sym c.in-Ok.ensures.exact ∙ ap tree_of e ∙ tree_of-spelling t h.token h.shallow

pub returns-in_default : goal.returns-in_default
returns-in_default c =
    let none : tree_of c.args.bytes.now ≡ None = none-NoTree c.in-Err.fault (tree_of c.args.bytes.now) c.in-Err.ensures.exact c.in_default.not-OutOfMemory in
    record {
      exact = sym none;
      again = λ t h e. sym none ∙ ap tree_of e ∙ tree_of-spelling t h.token h.shallow;
      nests = tt;
    }

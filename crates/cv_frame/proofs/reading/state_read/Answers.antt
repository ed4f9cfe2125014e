use Rattle.std.proofs.Common.{◌≡◌, sym, ◌∙◌}
use Rattle.std.proofs.lemmas.Result.{IfOk-weaker}
use Rattle.cv_token.specs.declared.identifiers.ActorId.{ActorId}
use Rattle.cv_protocol.specs.Actors.{StateView}
use Rattle.cv_frame.specs.Trees.{state_tree}
use Rattle.cv_frame.specs.Values.{IsState}
use Rattle.cv_frame.specs.laws.OneFrame.{one_state}
use Rattle.cv_frame.proofs.Held.{again, spelled_at, state_held}
use Rattle.cv_frame.proofs.reading.state_read.Goals as goal

-- a state of that actor
Is : ActorId → StateView → Type 0
Is a s = IsState s × (s.actor.id ≡ a)

pub returns-in_default : goal.returns-in_default
returns-in_default c =
    let none = rw c.in_default.is at c.in_ok-tree.ensures in record {
      exact = λ v k e. none (state_tree v) (state_held v k.0) e;
      again = λ v k id e. absurd (none (state_tree v) (state_held v k) e);
    }

pub returns : goal.returns
unfolding Is
returns c =
    let tree = rw c.in-Some.is at c.in_ok-tree.ensures in record {
      exact = IfOk-weaker c.state_of.result _ _ (λ o at. spelled_at (Is c.args.actor) state_tree (λ s k. state_held s k.0) _ _ o tree at) c.state_of.ensures;
      again = λ v k id e. IfOk-weaker c.state_of.result _ _
          (λ o at. again (Is c.args.actor) state_tree (λ s k. state_held s k.0) (λ s r j l. one_state s r j.0 l.0 (j.1 ∙ sym l.1)) _ o v (spelled_at (Is c.args.actor) state_tree (λ s k. state_held s k.0) _ _ o tree at) (k, id) e)
          c.state_of.ensures;
    }

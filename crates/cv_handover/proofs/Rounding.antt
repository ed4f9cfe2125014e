-- One application alone goes as the one runtime, and so its determined connections go as the rounds.
use Rattle.std.proofs.Common.{◌≡◌, ℕ, ◌<◌, List, ◌++◌, length, take, drop, sym, ap, subst, ◌∙◌}
use Rattle.std.proofs.lemmas.List.{take-append-drop}
use Rattle.std.proofs.lemmas.Option.{slice_get_within}
use Rattle.cv_token.specs.declared.token.Token.{Token}
use Rattle.cv_kahn.specs.Streams.{Prefix, wrote_of, wrote_at}
use Rattle.cv_kahn.proofs.Kahn.{prefix}
use Rattle.cv_kahn.proofs.Rows.{prefix_trans}
use Rattle.cv_queue.proofs.Lists.{slice_get_some}
use Rattle.cv_solo.specs.PlainNetwork.{plain}
use Rattle.cv_protocol.specs.declared.event.Step.{Step}
use Rattle.cv_protocol.specs.NodeState.{NodeState}
use Rattle.cv_handover.specs.Alone.{EachFromStart}
use Rattle.cv_handover.specs.Meaning.{Nets, Meaning}
use Rattle.cv_handover.specs.Placed.{FromPlaced}
use Rattle.cv_handover.specs.Rounds.{DeterminedGetRounds}
use Rattle.cv_handover.specs.Runs.{FromNothing}
use Rattle.cv_handover.specs.Runtimes.{firings}
use Rattle.cv_handover.proofs.Alone.{each_opened}
use Rattle.cv_handover.proofs.Placing.{each_placed}

begun : (got wrote : List Token) → take (length got) wrote ≡ got → Prefix got wrote
begun got wrote is =
    (drop (length got) wrote, sym (take-append-drop (length got) wrote) ∙ ap (λ (l : List Token). l ++ drop (length got) wrote) is)

rounds_of : (n : Nets) (openings : ℕ → NodeState) (start : Meaning) (m : List Step) → EachFromStart n openings start m → DeterminedGetRounds n openings start m
rounds_of n openings start m each begins rest app rounds c j stands wired there determined few =
    let a = each begins rest app stands (wired) in
    let within : c < length a.runtime.streams = subst (λ (k : ℕ). c < k) (sym a.all_streams) (slice_get_within (n.net app).connections c j there) in
    let s = slice_get_some a.runtime.streams c within in
    let got = begun (a.meaning.got (record { app = app; place = c })) s.0.wrote (a.streams c s.0 s.1).prefix in
    let written : Prefix (wrote_at a.runtime c) (wrote_at (plain (n.net app) rounds) c) = prefix (n.net app) (firings app begins) a.runtime rounds c j wired a.defined few there determined in
    let whole = wrote_at (plain (n.net app) rounds) c in
    record {
      world = a.world;
      meaning = a.meaning;
      reached = a.reached;
      got = prefix_trans (a.meaning.got (record { app = app; place = c })) s.0.wrote whole got (subst (λ (l : List Token). Prefix l whole) (ap wrote_of s.1) written);
    }

pub rounds_opened : FromNothing DeterminedGetRounds
rounds_opened specs nobody journals m numbers run = rounds_of _ _ _ m (each_opened specs nobody journals m numbers run)

pub rounds_placed : FromPlaced DeterminedGetRounds
rounds_placed n place openings journals m p run nets = rounds_of n openings _ m (each_placed n place openings journals m p run nets)

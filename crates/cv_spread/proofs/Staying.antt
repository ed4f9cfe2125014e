-- In a run no actor gets another owner.
use Rattle.std.proofs.Common.{◌≡◌, ℕ, zero, suc, ◌<◌, ◌≤◌, Bool, true, false, List, [], ◌∷◌, ◌++◌, length, Option, Some, None, Contains, refl, sym, ap, ◌∙◌, subst, arith, append_assoc, length-append}
use Rattle.std.specs.Prelude.{option_and_then}
use Rattle.std.proofs.lemmas.Option.{none-some as none_some, same_Some}
use Rattle.cv_token.specs.declared.identifiers.ActorId.{ActorId}
use Rattle.cv_protocol.specs.declared.event.Entry.{Entry}
use Rattle.cv_protocol.specs.declared.event.Step.{Step}
use Rattle.cv_protocol.specs.declared.frame.Frame.{Frame}
use Rattle.cv_protocol.specs.NodeState.{NodeState}
use Rattle.cv_protocol.specs.Owners.{Owner, Owners, Nowhere, At, Between, is_coming, is_going, owners_after, where_so}
use Rattle.cv_protocol.specs.Rows.{Did, Deed, Nothing, Deployed, Used, Fired_action, Passed, Received, Froze, Accepted_here, Resumed, Removed, Destroyed_here}
use Rattle.cv_protocol.specs.Journals.{did_at, replay, entry_of, entries_of, FramesWereSent, IsSentBy}
use Rattle.cv_handover.specs.Runs.{owners_of}
use Rattle.cv_handover.specs.World.{at}
use Rattle.cv_mesh.specs.Going.{is_of_run}
use Rattle.cv_spread.proofs.Journals.{stands_in}
use Rattle.cv_spread.proofs.Ranges.{contains_first, contains_later}
use Rattle.cv_spread.proofs.Steady.{calm_in, did_steady, is_calm, is_still, keeps, still_event}

-- 1. No frame of the record says that an application is destroyed

did_here : (o : Option NodeState) (e : Entry) (d : Did) → option_and_then (λ here. did_at here e) o ≡ Some d → (here : NodeState) × (did_at here e ≡ Some d)
did_here None e d is = absurd (none_some d is)
did_here (Some here) e d is = (here, is)

module _ (openings : ℕ → NodeState) (m : List Step) (sent : FramesWereSent openings m) (own : (s : Step) → Contains m s → is_of_run s.event ≡ true) where
  calm_by : (before : List Step) (f : Frame) (b : IsSentBy openings before f) → is_still b.step.event ≡ true → is_calm f.body ≡ true
  calm_by before f b still =
      let did = did_here (replay (openings f.from) (entries_of f.from b.before)) (entry_of b.step) b.sends.did b.sends.does in
      calm_in b.sends.did.sends f (did_steady did.0 (entry_of b.step) b.sends.did still did.1).sends b.sends.sent

  shorter : (before : List Step) (f : Frame) (b : IsSentBy openings before f) → length b.before < length before
  shorter before f b =
      let long = ap length b.stands ∙ length-append b.before (b.step ∷ b.after) in omega (arith, long)

  earlier : (before after : List Step) (s : Step) (f : Frame) (b : IsSentBy openings before f) → m ≡ before ++ s ∷ after → m ≡ b.before ++ b.step ∷ (b.after ++ s ∷ after)
  earlier before after s f b cut =
      cut
      ∙ ap (λ (ss : List Step). ss ++ s ∷ after) b.stands
      ∙ append_assoc b.before (b.step ∷ b.after) (s ∷ after)

  -- by how many steps there are before
  still_within : (few : ℕ) (before after : List Step) (s : Step) → m ≡ before ++ s ∷ after → length before ≤ few → is_still s.event ≡ true
  still_within zero before after s cut low =
      still_event s.event (own s (stands_in m before after s cut)) (λ f got.
      let b = sent before after s f cut got in
      absurd (omega (arith, shorter before f b, low)))
  still_within (suc few) before after s cut low =
      still_event s.event (own s (stands_in m before after s cut)) (λ f got.
      let b = sent before after s f cut got in
      calm_by before f b (still_within few b.before (b.after ++ s ∷ after) b.step (earlier before after s f b cut) (omega (arith, shorter before f b, low))))

  pub still_at : (before after : List Step) (s : Step) → m ≡ before ++ s ∷ after → is_still s.event ≡ true
  still_at before after s cut = still_within (length before) before after s cut (omega arith)

-- 2. The owners stay

-- nobody is on the way
abbrev pub Settled : Owners → Type 0
Settled own = (a : ActorId) (i j e : ℕ) → own a ≡ Between i j e → ⊥

not_coming : (o : Owner) (i e : ℕ) → ((s t d : ℕ) → o ≡ Between s t d → ⊥) → is_coming i e o ≡ false
not_coming Nowhere i e settled = refl
not_coming (At j) i e settled = refl
not_coming (Between s t d) i e settled = absurd (settled s t d refl)

not_going : (o : Owner) (i e : ℕ) → ((s t d : ℕ) → o ≡ Between s t d → ⊥) → is_going i e o ≡ false
not_going Nowhere i e settled = refl
not_going (At j) i e settled = refl
not_going (Between s t d) i e settled = absurd (settled s t d refl)

where_kept : (b : Bool) (own after : Owners) → where_so b own ≡ Some after → after ≡ own
where_kept true own after is = sym (same_Some own after is)
where_kept false own after is = absurd (none_some after is)

where_none : (b : Bool) (own after was : Owners) → b ≡ false → where_so b own ≡ Some after → after ≡ was
where_none true own after was none is = absurd (cc)
where_none false own after was none is = absurd (none_some after is)

deed_keeps : (own : Owners) (i : ℕ) (d : Deed) (after : Owners) → Settled own → keeps d ≡ true → owners_after own i d ≡ Some after → after ≡ own
deed_keeps own i Nothing after settled keep is = sym (same_Some own after is)
deed_keeps own i (Deployed app net) after settled keep is = absurd (cc)
deed_keeps own i (Used a) after settled keep is = where_kept _ own after is
deed_keeps own i (Fired_action a action) after settled keep is = where_kept _ own after is
deed_keeps own i (Passed a b conn token) after settled keep is = where_kept _ own after is
deed_keeps own i (Received a conn t) after settled keep is = where_kept _ own after is
deed_keeps own i (Froze a to e) after settled keep is = absurd (cc)
deed_keeps own i (Accepted_here a e) after settled keep is = where_none _ _ after own (not_coming (own a) i e (settled a)) is
deed_keeps own i (Resumed a e) after settled keep is = where_none _ _ after own (not_going (own a) i e (settled a)) is
deed_keeps own i (Removed a e) after settled keep is = where_none _ _ after own (not_going (own a) i e (settled a)) is
deed_keeps own i (Destroyed_here app) after settled keep is = absurd (cc)

owners_on : (nodes : ℕ → NodeState) (own : Owners) (s : Step) (ss : List Step) (after : Owners) (d : Did) (o : Option Owners) → ((next : Owners) → o ≡ Some next → next ≡ own) → ((nodes : ℕ → NodeState) → owners_of nodes own ss ≡ Some after → after ≡ own) → option_and_then (λ (next : Owners). owners_of (at nodes s.node d.next) next ss) o ≡ Some after → after ≡ own
owners_on nodes own s ss after d None same rest is = absurd (none_some after is)
owners_on nodes own s ss after d (Some next) same rest is =
    rest (at nodes s.node d.next) (subst (λ (x : Owners). owners_of (at nodes s.node d.next) x ss ≡ Some after) (same next refl) is)

owners_by : (nodes : ℕ → NodeState) (own : Owners) (s : Step) (ss : List Step) (after : Owners) (o : Option Did) → did_at (nodes s.node) (entry_of s) ≡ o → Settled own → is_still s.event ≡ true → ((nodes : ℕ → NodeState) → owners_of nodes own ss ≡ Some after → after ≡ own) → option_and_then (λ (d : Did). option_and_then (λ (next : Owners). owners_of (at nodes s.node d.next) next ss) (owners_after own s.node d.deed)) o ≡ Some after → after ≡ own
owners_by nodes own s ss after None did settled still rest is = absurd (none_some after is)
owners_by nodes own s ss after (Some d) did settled still rest is =
    let deed = (did_steady (nodes s.node) (entry_of s) d still did).deed in
    owners_on nodes own s ss after d (owners_after own s.node d.deed) (λ next told. deed_keeps own s.node d.deed next settled deed told) rest is

pub owners_stay : (nodes : ℕ → NodeState) (own : Owners) (steps : List Step) (after : Owners) → Settled own → ((s : Step) → Contains steps s → is_still s.event ≡ true) → owners_of nodes own steps ≡ Some after → after ≡ own
owners_stay nodes own [] after settled still is = sym (same_Some own after is)
owners_stay nodes own (s ∷ ss) after settled still is =
    owners_by nodes own s ss after (did_at (nodes s.node) (entry_of s)) refl settled (still s (contains_first s ss)) (λ others. owners_stay others own ss after settled (λ t c. still t (contains_later s ss t c))) is

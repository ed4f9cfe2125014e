-- From one step to many: what holds at every moment holds after every beginning of a record.
use Rattle.std.proofs.Common.{◌≡◌, inl, inr, ◌↔◌, ℕ, suc, Bool, true, false, ◌==◌, cond, List, [], ◌∷◌, ◌++◌, length, take, Option, Some, None, is_some, refl, sym, ap, subst, ◌∙◌, arith, append_assoc, IfSome, true≢false}
use Rattle.std.specs.Prelude.{slice_get, option_map, option_and_then, IsSome, Contains}
use Rattle.std.proofs.lemmas.Bool.Decides.{nat_tests}
use Rattle.std.proofs.lemmas.List.{append-nil}
use Rattle.std.proofs.lemmas.List.Concat.{flat_map-append}
use Rattle.std.proofs.lemmas.List.Elements.{Contains-append_left, Contains-append_right}
use Rattle.std.proofs.lemmas.Option.{same_Some, none-some as none_some}
use Rattle.std.specs.FinMap as map
use Rattle.cv_token.specs.declared.identifiers.ActorId.{ActorId}
use Rattle.cv_protocol.specs.declared.event.Entry.{Entry}
use Rattle.cv_protocol.specs.declared.event.Step.{Step}
use Rattle.cv_protocol.specs.declared.frame.Frame.{Frame}
use Rattle.cv_protocol.specs.Actors.{Actor, LiveState}
use Rattle.cv_protocol.specs.NodeState.{NodeState}
use Rattle.cv_protocol.specs.NodeRow.{row, stamp_of}
use Rattle.cv_protocol.specs.Rows.{Did, Deed}
use Rattle.cv_protocol.specs.Owners.{Owner, Owners, At, owners_after}
use Rattle.cv_protocol.specs.Journals.{did_if, did_at, next_of, replay, IsLocalRun, did_after, entry_of, own_entry, entries_of, got_frame, IsSentBy, FramesWereSent}
use Rattle.cv_handover.specs.World.{World, at, after, IsAmong}
use Rattle.cv_handover.specs.Meaning.{Nets, Meaning, means, with_owners}
use Rattle.cv_handover.specs.Agree.{Living, living, lives}
use Rattle.cv_handover.specs.Goes.{Goes}
use Rattle.cv_handover.specs.Runs.{StepLaw, opened, ran, owners_of, CarryNets, LiveAtOwner, InOrder, Reaches}
use Rattle.cv_handover.proofs.Folding.{owner_after}
use Rattle.cv_handover.proofs.Places.{at_cases}
use Rattle.cv_handover.proofs.Living.{is_here}

-- 1. Optional results

pub record Between {T U : Type 0} (f : T → Option U) (o : Option T) (y : U) : Type 0 where
  pub mid : T
  pub first : o ≡ Some mid
  pub then : f mid ≡ Some y

between : {T U : Type 0} (f : T → Option U) (o : Option T) (y : U) → option_and_then f o ≡ Some y → Between f o y
between f None y e = absurd (none_some y e)
between f (Some x) y e = record { mid = x; first = refl; then = e }

-- 2. Owners fold as the meaning does

owners_by : (n : Nets) (m v : Meaning) (d : Deed) (o : Option Owners) → with_owners n m d o ≡ Some v → o ≡ Some v.owner
owners_by n m v d None e = absurd (none_some v e)
owners_by n m v d (Some owner) e = ap Some (sym (owner_after n (record m { owner = owner }) v d e))

-- 3. What a run of steps leaves

-- the first step and the others
pub record First (n : Nets) (w : World) (m : Meaning) (s : Step) (ss : List Step) (x : World × Meaning) : Type 0 where
  pub did : Did
  pub meaning : Meaning
  pub does : did_at (w.nodes s.node) (entry_of s) ≡ Some did
  pub means_it : means n m s.node did.deed ≡ Some meaning
  pub later : ran n (after w s.node did) meaning ss ≡ Some x

pub first : (n : Nets) (w : World) (m : Meaning) (s : Step) (ss : List Step) (x : World × Meaning) → ran n w m (s ∷ ss) ≡ Some x → First n w m s ss x
first n w m s ss x e =
    let d = between (λ (d : Did). option_and_then (λ (v : Meaning). ran n (after w s.node d) v ss) (means n m s.node d.deed)) (did_at (w.nodes s.node) (entry_of s)) x e in
    let v = between (λ (v : Meaning). ran n (after w s.node d.mid) v ss) (means n m s.node d.mid.deed) x d.then in
    record { did = d.mid; meaning = v.mid; does = d.first; means_it = v.first; later = v.then }

pub first_is : (n : Nets) (w : World) (m : Meaning) (s : Step) (ss : List Step) (d : Did) (v : Meaning) → did_at (w.nodes s.node) (entry_of s) ≡ Some d → means n m s.node d.deed ≡ Some v → ran n w m (s ∷ ss) ≡ ran n (after w s.node d) v ss
first_is n w m s ss d v does means_it =
    ap (option_and_then (λ (c : Did). option_and_then (λ (x : Meaning). ran n (after w s.node c) x ss) (means n m s.node c.deed))) does ∙ ap (option_and_then (λ (x : Meaning). ran n (after w s.node d) x ss)) means_it

by_meaning : (p q : Meaning → Option (World × Meaning)) (k : World × Meaning → Option (World × Meaning)) → ((v : Meaning) → p v ≡ option_and_then k (q v)) → (o : Option Meaning) → option_and_then p o ≡ option_and_then k (option_and_then q o)
by_meaning p q k same None = refl
by_meaning p q k same (Some v) = same v

by_did : (p q : Did → Option (World × Meaning)) (k : World × Meaning → Option (World × Meaning)) → ((d : Did) → p d ≡ option_and_then k (q d)) → (o : Option Did) → option_and_then p o ≡ option_and_then k (option_and_then q o)
by_did p q k same None = refl
by_did p q k same (Some d) = same d

-- steps after steps
pub ran_append : (n : Nets) (w : World) (m : Meaning) (p q : List Step) → ran n w m (p ++ q) ≡ option_and_then (λ (x : World × Meaning). ran n x.0 x.1 q) (ran n w m p)
ran_append n w m [] q = refl
ran_append n w m (s ∷ ss) q =
    let on : List Step → Did → Option (World × Meaning) = λ later d. option_and_then (λ (v : Meaning). ran n (after w s.node d) v later) (means n m s.node d.deed) in
    let more : World × Meaning → Option (World × Meaning) = λ x. ran n x.0 x.1 q in
    by_did (on (ss ++ q)) (on ss) more (λ d. by_meaning (λ (v : Meaning). ran n (after w s.node d) v (ss ++ q)) (λ (v : Meaning). ran n (after w s.node d) v ss) more (λ v. ran_append n (after w s.node d) v ss q) (means n m s.node d.deed)) (did_at (w.nodes s.node) (entry_of s))

number_same : (a b : ℕ) → (a == b) ≡ true → b ≡ a
number_same a b e = grind (arith, nat_tests)

number_other : (a b : ℕ) → (a == b) ≡ false → b ≡ a → ⊥
number_other a b e = grind (arith, nat_tests)

replay_own : (nodes : ℕ → NodeState) (s : Step) (d : Did) (i : ℕ) (es : List Entry) (b : Bool) → (s.node == i) ≡ b → did_at (nodes s.node) (entry_of s) ≡ Some d → replay (nodes i) (cond b (entry_of s ∷ []) [] ++ es) ≡ replay (at nodes s.node d.next i) es
replay_own nodes s d i es true is does =
    let same : i ≡ s.node = number_same s.node i is in
    elim (at_cases nodes s.node d.next i) [
      | inl x ↦ ap (λ (k : ℕ). option_and_then (λ next. replay next es) (next_of (did_at (nodes k) (entry_of s)))) same ∙ ap (λ (o : Option Did). option_and_then (λ next. replay next es) (next_of o)) does ∙ ap (λ (t : NodeState). replay t es) (sym x.1)
      | inr x ↦ absurd (x.0 same)
    ]
replay_own nodes s d i es false is does =
    elim (at_cases nodes s.node d.next i) [
      | inl x ↦ absurd (number_other s.node i is x.0)
      | inr x ↦ ap (λ (t : NodeState). replay t es) (sym x.1)
    ]

-- each node's state is the replay of its own entries
pub states_of : (n : Nets) (w : World) (m : Meaning) (p : List Step) (x : World × Meaning) → ran n w m p ≡ Some x → (i : ℕ) → replay (w.nodes i) (entries_of i p) ≡ Some (x.0.nodes i)
states_of n w m [] x e i = ap (λ (y : World × Meaning). Some (y.0.nodes i)) (same_Some (w, m) x e)
states_of n w m (s ∷ ss) x e i =
    let f = first n w m s ss x e in
    replay_own w.nodes s f.did i (entries_of i ss) (s.node == i) refl f.does ∙ states_of n (after w s.node f.did) f.meaning ss x f.later i

-- what was sent stays sent
frames_stay : (n : Nets) (w : World) (m : Meaning) (p : List Step) (x : World × Meaning) → ran n w m p ≡ Some x → (f : Frame) → Contains w.frames f → Contains x.0.frames f
frames_stay n w m [] x e f there = subst (λ (y : World × Meaning). Contains y.0.frames f) (same_Some (w, m) x e) there
frames_stay n w m (s ∷ ss) x e f there =
    let q = first n w m s ss x e in
    frames_stay n (after w s.node q.did) q.meaning ss x q.later f (Contains-append_right q.did.sends w.frames f there)

frames_sent : (n : Nets) (w : World) (m : Meaning) (b : List Step) (s : Step) (a : List Step) (x : World × Meaning) → ran n w m (b ++ s ∷ a) ≡ Some x → (d : Did) → did_after (w.nodes s.node) (entries_of s.node b) (entry_of s) ≡ Some d → (f : Frame) → Contains d.sends f → Contains x.0.frames f
frames_sent n w m b s a x e d does f there =
    let u = between (λ (y : World × Meaning). ran n y.0 y.1 (s ∷ a)) (ran n w m b) x (sym (ran_append n w m b (s ∷ a)) ∙ e) in
    let q = first n u.mid.0 u.mid.1 s a x u.then in
    let same : q.did ≡ d = same_Some q.did d (sym q.does ∙ sym (ap (option_and_then (λ (here : NodeState). did_at here (entry_of s))) (states_of n w m b u.mid u.first s.node)) ∙ does) in
    frames_stay n (after u.mid.0 s.node q.did) q.meaning a x q.later f (Contains-append_left q.did.sends u.mid.0.frames f (subst (λ (c : Did). Contains c.sends f) (sym same) there))

owners_from : (n : Nets) (w : World) (m : Meaning) (p : List Step) (x : World × Meaning) → ran n w m p ≡ Some x → owners_of w.nodes m.owner p ≡ Some x.1.owner
owners_from n w m [] x e = ap (λ (y : World × Meaning). Some y.1.owner) (same_Some (w, m) x e)
owners_from n w m (s ∷ ss) x e =
    let q = first n w m s ss x e in
    let fold : Did → Owners → Option Owners = λ d own. owners_of (at w.nodes s.node d.next) own ss in
    let does = ap (option_and_then (λ (d : Did). option_and_then (fold d) (owners_after m.owner s.node d.deed))) q.does in
    let owners = owners_by n m q.meaning q.did.deed (owners_after m.owner s.node q.did.deed) q.means_it in
    does ∙ ap (option_and_then (fold q.did)) owners ∙ owners_from n (after w s.node q.did) q.meaning ss x q.later

-- 4. The next step of a record is a row

replay_append : (s : NodeState) (es fs : List Entry) → replay s (es ++ fs) ≡ option_and_then (λ (t : NodeState). replay t fs) (replay s es)
replay_append s [] fs = refl
replay_append s (e ∷ es) fs = by_next (next_of (did_at s e)) es fs (λ t. replay_append t es fs)
  where
    by_next : (o : Option NodeState) (es fs : List Entry) → ((t : NodeState) → replay t (es ++ fs) ≡ option_and_then (λ (u : NodeState). replay u fs) (replay t es)) → option_and_then (λ (t : NodeState). replay t (es ++ fs)) o ≡ option_and_then (λ (u : NodeState). replay u fs) (option_and_then (λ (t : NodeState). replay t es) o)
    by_next None es fs same = refl
    by_next (Some t) es fs same = same t

some_did : (x : Option Did) (es : List Entry) → IsSome (option_and_then (λ (t : NodeState). replay t es) (next_of x)) → (d : Did) × (x ≡ Some d)
some_did None es is = absurd (cc)
some_did (Some d) es is = (d, refl)

pub own_first : (s : Step) (es : List Entry) → cond (s.node == s.node) (entry_of s ∷ []) [] ++ es ≡ entry_of s ∷ es
own_first s es = let e : (s.node == s.node) ≡ true = grind (arith, nat_tests) in ap (λ (b : Bool). cond b (entry_of s ∷ []) [] ++ es) e

next_row : (nodes : ℕ → NodeState) (openings : ℕ → NodeState) (m p : List Step) (s : Step) (rest : List Step) → m ≡ p ++ s ∷ rest → replay (openings s.node) (entries_of s.node p) ≡ Some (nodes s.node) → IsLocalRun (openings s.node) (entries_of s.node m) → (d : Did) × (did_at (nodes s.node) (entry_of s) ≡ Some d)
next_row nodes openings m p s rest stands state local =
    let es = entries_of s.node rest in
    let parts : entries_of s.node m ≡ entries_of s.node p ++ (entry_of s ∷ es) = ap (entries_of s.node) stands ∙ flat_map-append (own_entry s.node) p (s ∷ rest) ∙ ap (λ (l : List Entry). entries_of s.node p ++ l) (own_first s es) in
    let whole : replay (openings s.node) (entries_of s.node m) ≡ replay (nodes s.node) (entry_of s ∷ es) = ap (replay (openings s.node)) parts ∙ replay_append (openings s.node) (entries_of s.node p) (entry_of s ∷ es) ∙ ap (option_and_then (λ (t : NodeState). replay t (entry_of s ∷ es))) state in
    some_did (did_at (nodes s.node) (entry_of s)) es (subst (λ (o : Option NodeState). IsSome o) whole local)

pub row_of_did : (b : Bool) (x : Option Did) (d : Did) → did_if b x ≡ Some d → x ≡ Some d
row_of_did true x d e = e
row_of_did false x d e = absurd (none_some d e)

-- 5. All that holds, along the record

module _ (law : StepLaw) (n : Nets) (openings : ℕ → NodeState) (start : Meaning) (m : List Step) (local : (i : ℕ) → IsLocalRun (openings i) (entries_of i m)) (sent : FramesWereSent openings m) (nets : CarryNets n openings m) where
  came_by : (p : List Step) (world : World) (v : Meaning) → ran n (opened openings) start p ≡ Some (world, v) → (f : Frame) → IsSentBy openings p f → Contains world.frames f
  came_by p world v is f b =
      let run : ran n (opened openings) start (b.before ++ b.step ∷ b.after) ≡ Some (world, v) = ap (ran n (opened openings) start) (sym b.stands) ∙ is in
      let does : did_after (openings b.step.node) (entries_of b.step.node b.before) (entry_of b.step) ≡ Some b.sends.did = subst (λ (k : ℕ). did_after (openings k) (entries_of k b.before) (entry_of b.step) ≡ Some b.sends.did) (sym b.by_sender) b.sends.does in
      frames_sent n (opened openings) start b.before b.step b.after (world, v) run b.sends.did does f b.sends.sent

  came : (p : List Step) (s : Step) (rest : List Step) → m ≡ p ++ s ∷ rest → (world : World) (v : Meaning) → ran n (opened openings) start p ≡ Some (world, v) → (x : Option Frame) → got_frame s.event ≡ x → IsAmong world.frames x
  came p s rest stands world v is None got = tt
  came p s rest stands world v is (Some f) got = came_by p world v is f (sent p rest s f stands got)

  one_more : (p : List Step) (s : Step) (rest : List Step) → m ≡ p ++ s ∷ rest → Reaches n openings start p → Reaches n openings start (p ++ s ∷ [])
  one_more p s rest stands r =
      let i : ℕ = s.node in
      let state : replay (openings i) (entries_of i p) ≡ Some (r.world.nodes i) = states_of n (opened openings) start p (r.world, r.meaning) r.reached i in
      let d = next_row r.world.nodes openings m p s rest stands state (local i) in
      let is_row : row (r.world.nodes i) s.event ≡ Some d.0 = row_of_did (s.stamp == stamp_of (r.world.nodes i) s.event) (row (r.world.nodes i) s.event) d.0 d.1 in
      let goes : IfSome (row (r.world.nodes i) s.event) (Goes n r.world r.meaning i) = law n r.world r.meaning r.history i s.event r.agrees (came p s rest stands r.world r.meaning r.reached (got_frame s.event) refl) (nets p rest s (r.world.nodes i) stands state) in
      let g : Goes n r.world r.meaning i d.0 = subst (λ (x : Option Did). IfSome x (Goes n r.world r.meaning i)) is_row goes in
      let run : ran n (opened openings) start (p ++ s ∷ []) ≡ Some (after r.world i d.0, g.meaning) = ran_append n (opened openings) start p (s ∷ []) ∙ ap (option_and_then (λ (x : World × Meaning). ran n x.0 x.1 (s ∷ []))) r.reached ∙ first_is n r.world r.meaning s [] d.0 g.meaning d.1 g.means_it in
      record {
        world = after r.world i d.0;
        meaning = g.meaning;
        history = g.history;
        reached = run;
        states = states_of n (opened openings) start (p ++ s ∷ []) (after r.world i d.0, g.meaning) run;
        agrees = g.agrees;
      }

  pub reaches : (p q rest : List Step) → m ≡ p ++ (q ++ rest) → Reaches n openings start p → Reaches n openings start (p ++ q)
  reaches p [] rest stands r = subst (Reaches n openings start) (sym (append-nil p)) r
  reaches p (s ∷ ss) rest stands r =
      let next : m ≡ (p ++ s ∷ []) ++ (ss ++ rest) = stands ∙ sym (append_assoc p (s ∷ []) (ss ++ rest)) in
      let whole : (p ++ s ∷ []) ++ ss ≡ p ++ s ∷ ss = append_assoc p (s ∷ []) ss in
      subst (Reaches n openings start) whole (reaches (p ++ s ∷ []) ss rest next (one_more p s (ss ++ rest) stands r))

-- 6. The two promises at a moment

some_mapped : {X Y : Type 0} (f : X → Y) (x : Option X) → is_some (option_map f x) ≡ is_some x
some_mapped f None = refl
some_mapped f (Some y) = refl

owner_where_live : (nodes : ℕ → NodeState) (i : ℕ) (a : ActorId) (own : Owner) → ((l : Living) → lives nodes i a ≡ Some l → own ≡ At i) → (x : Option LiveState) → map.get (nodes i).live a ≡ x → is_some x ≡ true → own ≡ At i
owner_where_live nodes i a own only None is some = absurd (true≢false (sym some))
owner_where_live nodes i a own only (Some l) is some = only (living l) (ap (option_map living) is)

pub prefix_of : {X : Type 0} (got wrote : List X) → ((i : ℕ) (t : X) → slice_get got i ≡ Some t → slice_get wrote i ≡ Some t) → take (length got) wrote ≡ got
prefix_of [] wrote same = refl
prefix_of (g ∷ gs) [] same = absurd (none_some g (same 0 g refl))
prefix_of (g ∷ gs) (x ∷ xs) same =
    λ z. same_Some x g (same 0 g refl) z ∷ prefix_of gs xs (λ i t e. same (suc i) t e) z

module _ (n : Nets) (openings : ℕ → NodeState) (start : Meaning) (p : List Step) (r : Reaches n openings start p) where
  state_is : (i : ℕ) (s : NodeState) → replay (openings i) (entries_of i p) ≡ Some s → r.world.nodes i ≡ s
  state_is i s e = same_Some (r.world.nodes i) s (sym (r.states i) ∙ e)

  live_where_owned : (i : ℕ) (a : ActorId) → r.meaning.owner a ≡ At i → is_some (map.get (r.world.nodes i).live a) ≡ true
  live_where_owned i a own = sym (some_mapped living (map.get (r.world.nodes i).live a)) ∙ ap is_some (r.agrees.owned.live_at a i own)

  pub live_at_owner : LiveAtOwner openings start.owner p
  live_at_owner = record {
    owner = r.meaning.owner;
    folded = owners_from n (opened openings) start p (r.world, r.meaning) r.reached;
    lives =
        λ i s a e.
        subst (λ (t : NodeState). (is_some (map.get t.live a) ≡ true) ↔ (r.meaning.owner a ≡ At i)) (state_is i s e) (λ some. owner_where_live r.world.nodes i a (r.meaning.owner a) (r.agrees.owned.live_only a i) (map.get (r.world.nodes i).live a) refl some, live_where_owned i a);
  }

  pub in_order : InOrder n openings start p
  in_order = record {
    world = r.world;
    meaning = r.meaning;
    defined = r.reached;
    prefix = λ c. prefix_of (r.meaning.got c) (r.meaning.wrote c) (r.agrees.streams.ordered c);
    taken = r.agrees.streams.taken;
    slots =
        λ i s a l e there.
        let same = state_is i s e in
        let here = is_here n r.world.nodes r.world.frames r.meaning r.history i a l r.agrees (ap (λ (t : NodeState). map.get t.live a) same ∙ there) in
        ap (λ (x : Actor). x.slots) here.actor ∙ (r.agrees.streams.actors a).alike.slots;
  }

-- What the lemma of a row says, and what the nodes' tables are after one: functions of node and actor that changed.
use Rattle.std.proofs.Common.{◌≡◌, inl, inr, ℕ, ◌<◌, Bool, true, false, ◌==◌, cond, List, ◌++◌, Option, Some, None, refl, sym, ap, subst, ◌∙◌, arith, if◌then◌else◌, IfSome}
use Rattle.std.specs.Prelude.{nat_lt, option_map}
use Rattle.std.proofs.lemmas.Bool.{and_parts, cases_eq}
use Rattle.std.proofs.lemmas.Bool.Decides.{nat_tests}
use Rattle.std.specs.FinMap as map
use Rattle.cv_token.specs.declared.identifiers.ActorId.{ActorId}
use Rattle.cv_table.specs.Order.{actor_cmp, same_actor}
use Rattle.cv_table.proofs.Views.{get_inserted, get_removed, same_actor-cases}
use Rattle.cv_protocol.specs.declared.frame.Frame.{Frame}
use Rattle.cv_protocol.specs.declared.moving.Frozen.{Frozen}
use Rattle.cv_protocol.specs.declared.moving.Judged.{Judged}
use Rattle.cv_protocol.specs.Actors.{LiveState}
use Rattle.cv_protocol.specs.NodeState.{NodeState}
use Rattle.cv_protocol.specs.Poll.{limit}
use Rattle.cv_protocol.specs.Rows.{Did}
use Rattle.cv_protocol.specs.NodeRow.{stamped, stamped_if, is_bounded}
use Rattle.cv_handover.specs.World.{World, at}
pub use Rattle.cv_handover.specs.Goes.{Goes}
use Rattle.cv_handover.specs.Meaning.{Nets, Meaning}
use Rattle.cv_handover.specs.Agree.{Living, Copy, living, copy_of, lives, copies, records, History, Owned, Kept, IsUnheard, Numbered, Agree}
use Rattle.cv_handover.proofs.Places.{at_cases, put, put_cases}

-- 1. The lemma of a row

-- a row before its numbers are looked at: where they are below the limit
abbrev pub GoesIfFew : Nets → World → Meaning → ℕ → Option Did → Type 0
GoesIfFew n w m i r = IfSome r (λ d. d.fits ≡ true → Goes n w m i d)

-- 2. A table of a node that changed

-- a node's state in what is seen of it
at_seen : {X : Type 0} (view : NodeState → X) (nodes : ℕ → NodeState) (i : ℕ) (s : NodeState) (k : ℕ) → view s ≡ view (nodes i) → view (at nodes i s k) ≡ view (nodes k)
unfolding at
at_seen view nodes i s k e =
    elim (cases_eq k i) [
      | inl is ↦ let t : (k == i) ≡ true = grind (arith, nat_tests, is) in ap (λ (b : Bool). view (if b then s else nodes k)) t ∙ e ∙ ap (λ (j : ℕ). view (nodes j)) (sym is)
      | inr is ↦ let t : (k == i) ≡ false = grind (arith, nat_tests, is) in ap (λ (b : Bool). view (if b then s else nodes k)) t
    ]

module _ {X : Type 0} (view : NodeState → ActorId → X) (nodes : ℕ → NodeState) (i : ℕ) (s : NodeState) where
  -- nothing is seen to change
  pub seen_same : ((b : ActorId) → view s b ≡ view (nodes i) b) → ◌≡◌ {A = ℕ → ActorId → X} (λ k b. view (at nodes i s k) b) (λ k b. view (nodes k) b)
  seen_same e = λ z k b. at_seen (λ t. view t b) nodes i s k (e b) z

  put_at : (a : ActorId) (x : X) → ((b : ActorId) → view s b ≡ cond (same_actor b a) x (view (nodes i) b)) → (k : ℕ) (b : ActorId) → view (at nodes i s k) b ≡ put (λ (j : ℕ) (c : ActorId). view (nodes j) c) i a x k b
  put_at a x e k b =
      let test : (t : Bool) → same_actor b a ≡ t → view s b ≡ cond t x (view (nodes i) b) = λ t is. e b ∙ ap (λ (c : Bool). cond c x (view (nodes i) b)) is in
      elim (at_cases nodes i s k) [
        | inl y ↦
            let now : view (at nodes i s k) b ≡ view s b = ap (λ (u : NodeState). view u b) y.1 in
            elim (put_cases (λ (j : ℕ) (c : ActorId). view (nodes j) c) i a x k b) [
              | inl p ↦ now ∙ elim (same_actor-cases b a) [ inl t ↦ test true t.0 | inr t ↦ absurd (t.1 p.1) ] ∙ sym p.2
              | inr p ↦ now ∙ elim (same_actor-cases b a) [ inl t ↦ absurd (p.0 y.0 t.1) | inr t ↦ test false t.0 ] ∙ ap (λ (j : ℕ). view (nodes j) b) (sym y.0) ∙ sym p.1
            ]
        | inr y ↦
            elim (put_cases (λ (j : ℕ) (c : ActorId). view (nodes j) c) i a x k b) [
              | inl p ↦ absurd (y.0 p.0)
              | inr p ↦ ap (λ (u : NodeState). view u b) y.1 ∙ sym p.1
            ]
      ]

  -- one actor of node i is seen to change
  pub seen_put : (a : ActorId) (x : X) → ((b : ActorId) → view s b ≡ cond (same_actor b a) x (view (nodes i) b)) → ◌≡◌ {A = ℕ → ActorId → X} (λ k b. view (at nodes i s k) b) (put (λ (k : ℕ) (b : ActorId). view (nodes k) b) i a x)
  seen_put a x e = λ z k b. put_at a x e k b z

map_of_cond : {V W : Type 0} (f : V → W) (t : Bool) (x y : Option V) → option_map f (cond t x y) ≡ cond t (option_map f x) (option_map f y)
map_of_cond f true x y = refl
map_of_cond f false x y = refl

module _ {V W : Type 0} (f : V → W) (m : map.FinMap actor_cmp V) where
  pub seen_inserted : (a : ActorId) (v : V) (b : ActorId) → option_map f (map.get (map.insert m a v) b) ≡ cond (same_actor b a) (Some (f v)) (option_map f (map.get m b))
  seen_inserted a v b = ap (option_map f) (get_inserted m a v b) ∙ map_of_cond f (same_actor b a) (Some v) (map.get m b)

  pub seen_removed : (a b : ActorId) → option_map f (map.get (map.remove m a) b) ≡ cond (same_actor b a) None (option_map f (map.get m b))
  seen_removed a b = ap (option_map f) (get_removed m a b) ∙ map_of_cond f (same_actor b a) None (map.get m b)

-- 3. Node i has this state: what of it makes which table

module _ (nodes : ℕ → NodeState) (i : ℕ) (s : NodeState) where
  pub lives_inserted : (a : ActorId) (l : LiveState) → s.live ≡ map.insert (nodes i).live a l → lives (at nodes i s) ≡ put (lives nodes) i a (Some (living l))
  lives_inserted a l e = seen_put (λ t b. option_map living (map.get t.live b)) nodes i s a (Some (living l)) (λ b. ap (λ t. option_map living (map.get t b)) e ∙ seen_inserted living (nodes i).live a l b)

  pub lives_removed : (a : ActorId) → s.live ≡ map.remove (nodes i).live a → lives (at nodes i s) ≡ put (lives nodes) i a None
  lives_removed a e = seen_put (λ t b. option_map living (map.get t.live b)) nodes i s a None (λ b. ap (λ t. option_map living (map.get t b)) e ∙ seen_removed living (nodes i).live a b)

  pub lives_same : s.live ≡ (nodes i).live → lives (at nodes i s) ≡ lives nodes
  lives_same e = seen_same (λ t b. option_map living (map.get t.live b)) nodes i s (λ b. ap (λ t. option_map living (map.get t b)) e)

  pub copies_inserted : (a : ActorId) (f : Frozen) → s.moves.frozen ≡ map.insert (nodes i).moves.frozen a f → copies (at nodes i s) ≡ put (copies nodes) i a (Some (copy_of f))
  copies_inserted a f e = seen_put (λ t b. option_map copy_of (map.get t.moves.frozen b)) nodes i s a (Some (copy_of f)) (λ b. ap (λ t. option_map copy_of (map.get t b)) e ∙ seen_inserted copy_of (nodes i).moves.frozen a f b)

  pub copies_removed : (a : ActorId) → s.moves.frozen ≡ map.remove (nodes i).moves.frozen a → copies (at nodes i s) ≡ put (copies nodes) i a None
  copies_removed a e = seen_put (λ t b. option_map copy_of (map.get t.moves.frozen b)) nodes i s a None (λ b. ap (λ t. option_map copy_of (map.get t b)) e ∙ seen_removed copy_of (nodes i).moves.frozen a b)

  pub copies_same : s.moves.frozen ≡ (nodes i).moves.frozen → copies (at nodes i s) ≡ copies nodes
  copies_same e = seen_same (λ t b. option_map copy_of (map.get t.moves.frozen b)) nodes i s (λ b. ap (λ t. option_map copy_of (map.get t b)) e)

  pub records_inserted : (a : ActorId) (j : Judged) → s.moves.judged ≡ map.insert (nodes i).moves.judged a j → records (at nodes i s) ≡ put (records nodes) i a (Some j)
  records_inserted a j e = seen_put (λ t b. map.get t.moves.judged b) nodes i s a (Some j) (λ b. ap (λ t. map.get t b) e ∙ get_inserted (nodes i).moves.judged a j b)

  pub records_same : s.moves.judged ≡ (nodes i).moves.judged → records (at nodes i s) ≡ records nodes
  records_same e = seen_same (λ t b. map.get t.moves.judged b) nodes i s (λ b. ap (λ t. map.get t b) e)

  -- the node's number and how many it deployed stay, and who was unheard of is
  pub numbered_kept : (n : Nets) (m v : Meaning) (h g : History) → s.spec.no ≡ (nodes i).spec.no → s.known.deployed ≡ (nodes i).known.deployed → ((a : ActorId) → IsUnheard n m h a → IsUnheard n v g a) → Numbered n nodes m h → Numbered n (at nodes i s) v g
  numbered_kept n m v h g number deployed stays q = record {
    number = λ k. at_seen (λ t. t.spec.no) nodes i s k number ∙ q.number k;
    unheard = λ a below. stays a (q.unheard a (subst (λ (d : ℕ). d < a.app.seq) (at_seen (λ t. t.known.deployed) nodes i s a.app.node deployed) below));
  }

-- 4. The parts are carried along equal tables

pub owned_carried : (live new : ℕ → ActorId → Option Living) (m : Meaning) (h : History) → new ≡ live → Owned live m.owner h → Owned new m.owner h
owned_carried live new m h e o = subst (λ (l : ℕ → ActorId → Option Living). Owned l m.owner h) (sym e) o

pub kept_carried : (frozen cold : ℕ → ActorId → Option Copy) (judged known : ℕ → ActorId → Option Judged) (m : Meaning) (h : History) → cold ≡ frozen → known ≡ judged → Kept frozen judged m.owner h → Kept cold known m.owner h
kept_carried frozen cold judged known m h e f q = subst (λ (j : ℕ → ActorId → Option Judged). Kept cold j m.owner h) (sym f) (subst (λ (c : ℕ → ActorId → Option Copy). Kept c judged m.owner h) (sym e) q)

-- 5. The stamp is not seen

-- two states of one node that show the same tables
pub record Shows (s t : NodeState) : Type 0 where
  pub number : t.spec.no ≡ s.spec.no
  pub deployed : t.known.deployed ≡ s.known.deployed
  pub live : t.live ≡ s.live
  pub frozen : t.moves.frozen ≡ s.moves.frozen
  pub judged : t.moves.judged ≡ s.moves.judged

twice : {X : Type 0} (f : ℕ → X) (i : ℕ) (x y : X) (k : ℕ) → at (at f i x) i y k ≡ at f i y k
unfolding at
twice f i x y k = elim (k == i) as (λ (b : Bool). (if b then y else (if b then x else f k)) ≡ (if b then y else f k)) [ true ↦ refl | false ↦ refl ]

-- of two changes at one place the later one is left
pub at_twice : {X : Type 0} (f : ℕ → X) (i : ℕ) (x y : X) → at (at f i x) i y ≡ at f i y
at_twice f i x y = λ z k. twice f i x y k z

here : {X : Type 0} (f : ℕ → X) (i : ℕ) (x : X) → at f i x i ≡ x
unfolding at
here f i x = let t : (i == i) ≡ true = grind (arith, nat_tests) in ap (λ (b : Bool). if b then x else f i) t

pub at_here : {X : Type 0} (f : ℕ → X) (i : ℕ) (x : X) → at f i x i ≡ x
at_here f i x = here f i x

pub agree_shown : (n : Nets) (nodes : ℕ → NodeState) (i : ℕ) (s t : NodeState) (frames : List Frame) (m : Meaning) (h : History) → Shows s t → Agree n (at nodes i s) frames m h → Agree n (at nodes i t) frames m h
agree_shown n nodes i s t frames m h q g =
    let f : ℕ → NodeState = at nodes i s in
    let e : f i ≡ s = at_here nodes i s in
    let u : Agree n (at f i t) frames m h = record {
      numbered = numbered_kept f i t n m m h h (q.number ∙ ap (λ (x : NodeState). x.spec.no) (sym e)) (q.deployed ∙ ap (λ (x : NodeState). x.known.deployed) (sym e)) (λ a x. x) g.numbered;
      owned = owned_carried (lives f) (lives (at f i t)) m h (lives_same f i t (q.live ∙ ap (λ (x : NodeState). x.live) (sym e))) g.owned;
      kept = kept_carried (copies f) (copies (at f i t)) (records f) (records (at f i t)) m h (copies_same f i t (q.frozen ∙ ap (λ (x : NodeState). x.moves.frozen) (sym e))) (records_same f i t (q.judged ∙ ap (λ (x : NodeState). x.moves.judged) (sym e))) g.kept;
      streams = g.streams;
      sent = g.sent;
    } in
    subst (λ (v : ℕ → NodeState). Agree n v frames m h) (at_twice nodes i s t) u

goes_bounded : (n : Nets) (w : World) (m : Meaning) (i stamp : ℕ) (d : Did) → (d.fits ≡ true → Goes n w m i d) → (b : Bool) → is_bounded stamp d ≡ b → IfSome (stamped_if stamp d b) (Goes n w m i)
goes_bounded n w m i stamp d goes false is = tt
goes_bounded n w m i stamp d goes true is =
    let fits = and_parts d.fits (nat_lt stamp limit) is in
    let g = goes fits.0 in
    record {
      meaning = g.meaning;
      history = g.history;
      means_it = g.means_it;
      agrees = agree_shown n w.nodes i d.next (record (d.next) { stamp = stamp }) (d.sends ++ w.frames) g.meaning g.history (record { number = refl; deployed = refl; live = refl; frozen = refl; judged = refl }) g.agrees;
    }

-- a row whose numbers fit is a step with its stamp too
pub goes_stamped : (n : Nets) (w : World) (m : Meaning) (i stamp : ℕ) (r : Option Did) → GoesIfFew n w m i r → IfSome (stamped stamp r) (Goes n w m i)
goes_stamped n w m i stamp None goes = tt
goes_stamped n w m i stamp (Some d) goes = goes_bounded n w m i stamp d goes (is_bounded stamp d) refl

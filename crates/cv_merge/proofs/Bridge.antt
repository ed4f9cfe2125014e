-- From journals to the record: what came was sent before.
use Rattle.std.proofs.Common.{◌≡◌, inl, inr, ℕ, ◌<◌, ◌≤◌, false, ◌==◌, List, [], ◌∷◌, ◌++◌, Option, Some, None, refl, ap, sym, ◌∙◌, subst, arith}
use Rattle.std.specs.Prelude.{option_and_then, IsSome}
use Rattle.std.proofs.lemmas.List.Concat.{flat_map-append}
use Rattle.cv_protocol.specs.declared.event.Entry.{Entry}
use Rattle.cv_protocol.specs.declared.event.Event.{Event}
use Rattle.cv_protocol.specs.declared.event.Event.TheVariants as event
use Rattle.cv_protocol.specs.declared.event.Step.{Step}
use Rattle.cv_protocol.specs.declared.frame.Frame.{Frame}
use Rattle.cv_protocol.specs.NodeState.{NodeState}
use Rattle.cv_protocol.specs.NodeRow.{stamp_of}
use Rattle.cv_protocol.specs.Journals.{did_at, next_of, replay, IsLocalRun, entry_of, own_entry, entries_of, IsBefore, IsRecordOf, got_frame, Sends, IsSentBy, FramesWereSent}
use Rattle.cv_merge.specs.Laws.{IsBeforeAll, IsSorted, AreLocalRuns, IsSentIn, GotOnlySent}
use Rattle.cv_merge.proofs.Sorting.{stamped, own_is, other_is, by_owner, record_is_sorted}

-- 1. An entry of a journal as a step of the record

pub record Cut (m : List Step) (i : ℕ) (b : List Entry) (e : Entry) : Type 0 where
  pub before : List Step
  pub step : Step
  pub after : List Step
  pub stands : m ≡ before ++ step ∷ after
  pub node : step.node ≡ i
  pub entry : entry_of step ≡ e
  pub earlier : entries_of i before ≡ b

deeper : (s : Step) (ss : List Step) (i : ℕ) (b : List Entry) (e : Entry) (c : Cut ss i b e) (own : List Entry) → entries_of i (s ∷ c.before) ≡ own → Cut (s ∷ ss) i own e
deeper s ss i b e c own is = record {
  before = s ∷ c.before;
  step = c.step;
  after = c.after;
  stands = ap (λ (ts : List Step). s ∷ ts) c.stands;
  node = c.node;
  entry = c.entry;
  earlier = is;
}

own_cut : (s : Step) (ss : List Step) (i : ℕ) (b a : List Entry) (e : Entry) → s.node ≡ i → entry_of s ∷ entries_of i ss ≡ b ++ e ∷ a → ((b : List Entry) → entries_of i ss ≡ b ++ e ∷ a → Cut ss i b e) → Cut (s ∷ ss) i b e
own_cut s ss i [] a e own is below = record {
  before = [];
  step = s;
  after = ss;
  stands = refl;
  node = own;
  entry = cc;
  earlier = refl;
}
own_cut s ss i (x ∷ b) a e own is below =
    let head : entry_of s ≡ x = cc in
    let tail : entries_of i ss ≡ b ++ e ∷ a = cc in
    let c = below b tail in
    deeper s ss i b e c (x ∷ b) (own_is s c.before i own ∙ ap (λ (es : List Entry). entry_of s ∷ es) c.earlier ∙ ap (λ (y : Entry). y ∷ b) head)

other_cut : (s : Step) (ss : List Step) (i : ℕ) (b : List Entry) (e : Entry) → (s.node == i) ≡ false → Cut ss i b e → Cut (s ∷ ss) i b e
other_cut s ss i b e other c = deeper s ss i b e c b (other_is s c.before i other ∙ c.earlier)

no_cut : (b a : List Entry) (e : Entry) (P : Type 0) → [] ≡ b ++ e ∷ a → P
no_cut [] a e P h = absurd (cc)
no_cut (x ∷ b) a e P h = absurd (cc)

pub cut_at : (m : List Step) (i : ℕ) (b a : List Entry) (e : Entry) → entries_of i m ≡ b ++ e ∷ a → Cut m i b e
cut_at [] i b a e is = no_cut b a e (Cut [] i b e) is
cut_at (s ∷ ss) i b a e is =
    by_owner s i (Cut (s ∷ ss) i b e)
    (λ own. own_cut s ss i b a e own (sym (own_is s ss i own) ∙ is) (λ c there. cut_at ss i c a e there))
    (λ other. other_cut s ss i b e other (cut_at ss i b a e (sym (other_is s ss i other) ∙ is)))

-- 2. A step with a lower stamp stands earlier

at_most : (t n u i : ℕ) → IsBefore t n u i → t ≤ u
at_most t n u i (inl h) = omega (arith, h)
at_most t n u i (inr h) = omega (arith, h.0)

before_in : (s : Step) (b : List Step) (t : Step) (r : List Step) → IsBeforeAll s (b ++ t ∷ r) → IsBefore s.stamp s.node t.stamp t.node
before_in s [] t r h = h.0
before_in s (x ∷ b) t r h = before_in s b t r h.1

-- where the earlier step stands in the front
pub record Within (p b : List Step) (t : Step) : Type 0 where
  pub rest : List Step
  pub stands : p ≡ b ++ t ∷ rest

earlier_head : (t : Step) (r p q : List Step) (s : Step) → t ∷ r ≡ p ++ s ∷ q → t.stamp < s.stamp → Within p [] t
earlier_head t r [] q s is low =
    let same : t ≡ s = cc in
    let stamps : t.stamp ≡ s.stamp = ap (λ (x : Step). x.stamp) same in
    absurd (omega (arith, stamps, low))
earlier_head t r (x ∷ p) q s is low =
    let same : t ≡ x = cc in
    record { rest = p; stands = ap (λ (y : Step). y ∷ p) (sym same) }

pub stands_earlier : (b p q r : List Step) (t s : Step) → IsSorted (b ++ t ∷ r) → b ++ t ∷ r ≡ p ++ s ∷ q → t.stamp < s.stamp → Within p b t
stands_earlier [] p q r t s rises is low = earlier_head t r p q s is low
stands_earlier (y ∷ b) [] q r t s rises is low =
    let same : y ≡ s = cc in
    let before = at_most y.stamp y.node t.stamp t.node (before_in y b t r rises.0) in
    let stamps : y.stamp ≡ s.stamp = ap (λ (x : Step). x.stamp) same in
    absurd (omega (arith, before, stamps, low))
stands_earlier (y ∷ b) (x ∷ p) q r t s rises is low =
    let same : y ≡ x = cc in
    let tail : b ++ t ∷ r ≡ p ++ s ∷ q = cc in
    let w = stands_earlier b p q r t s rises.1 tail low in
    record {
      rest = w.rest;
      stands = ap (λ (z : Step). z ∷ p) (sym same) ∙ ap (λ (zs : List Step). y ∷ zs) w.stands;
    }

-- 3. An entry has a greater stamp than the frame that it got

abbrev GotLower : Entry → Frame → Type 0
GotLower e f = f.stamp < e.stamp

stamp_above : (s : NodeState) (e : Event) (f : Frame) → got_frame e ≡ Some f → f.stamp < stamp_of s e
stamp_above s (event.Lose g) f is = let same : g ≡ f = cc in let h : g.stamp ≡ f.stamp = ap (λ (x : Frame). x.stamp) same in grind (arith, h)
stamp_above s (event.Deliver g) f is = let same : g ≡ f = cc in let h : g.stamp ≡ f.stamp = ap (λ (x : Frame). x.stamp) same in grind (arith, h)
stamp_above s (event.Meet node attrs) f is = absurd (cc)
stamp_above s (event.Deploy name net) f is = absurd (cc)
stamp_above s (event.Tick now) f is = absurd (cc)
stamp_above s (event.Peek a port) f is = absurd (cc)
stamp_above s (event.Fire a action) f is = absurd (cc)
stamp_above s (event.Pass conn) f is = absurd (cc)
stamp_above s (event.Send conn) f is = absurd (cc)
stamp_above s (event.Rewind conn) f is = absurd (cc)
stamp_above s (event.Freeze a to) f is = absurd (cc)
stamp_above s (event.Resend a) f is = absurd (cc)
stamp_above s (event.Withdraw a) f is = absurd (cc)
stamp_above s (event.Hint a attempt node) f is = absurd (cc)
stamp_above s (event.Destroy app) f is = absurd (cc)

abbrev Above : NodeState → List Entry → Entry → List Entry → Frame → Type 0
Above s b e a f = IsSome (replay s (b ++ e ∷ a)) → f.stamp < e.stamp

above_here : (s : NodeState) (e : Entry) (a : List Entry) (f : Frame) → got_frame e.event ≡ Some f → (o : Option NodeState) → next_of (did_at s e) ≡ o → IsSome (option_and_then (λ next. replay next a) o) → f.stamp < e.stamp
above_here s e a f got None is run = absurd (cc)
above_here s e a f got (Some next) is run =
    let k = stamped s e next is in
    let low = stamp_above s e.event f got in
    omega (arith, k.is, low)

above_later : (x : Entry) (b : List Entry) (e : Entry) (a : List Entry) (f : Frame) → ((next : NodeState) → Above next b e a f) → (o : Option NodeState) → IsSome (option_and_then (λ next. replay next (b ++ e ∷ a)) o) → f.stamp < e.stamp
above_later x b e a f below None run = absurd (cc)
above_later x b e a f below (Some next) run = below next run

got_above : (b : List Entry) (s : NodeState) (e : Entry) (a : List Entry) (f : Frame) → got_frame e.event ≡ Some f → Above s b e a f
got_above [] s e a f got run = above_here s e a f got (next_of (did_at s e)) refl run
got_above (x ∷ b) s e a f got run =
    above_later x b e a f (λ next. got_above b next e a f got) (next_of (did_at s x)) run

-- 4. The bridge

-- the entries of a step's node
around : (p q : List Step) (s : Step) → entries_of s.node (p ++ s ∷ q) ≡ entries_of s.node p ++ entry_of s ∷ entries_of s.node q
around p q s =
    flat_map-append (own_entry s.node) p (s ∷ q) ∙ ap (λ (es : List Entry). entries_of s.node p ++ es) (own_is s q s.node refl)

sent_by : (openings : ℕ → NodeState) (journals : ℕ → List Entry) (m p q : List Step) (s : Step) (f : Frame) → IsSorted m → ((i : ℕ) → entries_of i m ≡ journals i) → m ≡ p ++ s ∷ q → f.stamp < s.stamp → IsSentIn openings journals f → IsSentBy openings p f
sent_by openings journals m p q s f rises parts is low k =
    let c = cut_at m f.from k.before k.after k.entry (parts f.from ∙ k.stands) in
    let stamp : c.step.stamp ≡ f.stamp = ap (λ (e : Entry). e.stamp) c.entry ∙ k.stamped in
    let lower : c.step.stamp < s.stamp = omega (arith, stamp, low) in
    let w = stands_earlier c.before p q c.after c.step s (subst IsSorted c.stands rises) (sym c.stands ∙ is) lower in
    record {
      before = c.before;
      step = c.step;
      after = w.rest;
      stands = w.stands;
      by_sender = c.node;
      stamped = stamp;
      sends = subst (λ (es : List Entry). Sends (openings f.from) es (entry_of c.step) f) (sym c.earlier) (subst (λ (e : Entry). Sends (openings f.from) k.before e f) (sym c.entry) k.sends);
    }

pub sent_before : (openings : ℕ → NodeState) (journals : ℕ → List Entry) (m : List Step) → AreLocalRuns openings journals → GotOnlySent openings journals → IsRecordOf journals m → FramesWereSent openings m
sent_before openings journals m runs sent is p q s f cut got =
    let stands : journals s.node ≡ entries_of s.node p ++ entry_of s ∷ entries_of s.node q = sym (is.parts s.node) ∙ ap (entries_of s.node) cut ∙ around p q s in
    let run = subst (λ (es : List Entry). IsLocalRun (openings s.node) es) stands (runs s.node) in
    let low : f.stamp < s.stamp = got_above (entries_of s.node p) (openings s.node) (entry_of s) (entries_of s.node q) f got run in
    sent_by openings journals m p q s f (record_is_sorted openings journals m runs is) is.parts cut low (sent s.node (entries_of s.node p) (entries_of s.node q) (entry_of s) f stands got)

-- A firing: the one runtime may fire the same action, and takes and writes the same tokens.
use Rattle.std.proofs.Common.{◌≡◌, inl, inr, ℕ, zero, suc, ◌+◌, ◌<◌, ◌≤◌, ◌^◌, Bool, true, ◌&&◌, List, [], ◌∷◌, ◌++◌, length, map, drop, Option, Some, None, refl, sym, ap, subst, ◌∙◌, arith, if◌then◌else◌, length-append, length-drop}
use Rattle.std.specs.Prelude.{slice_get, nat_lt, unwrap_or, option_to_list}
use Rattle.std.proofs.lemmas.Bool.{and_parts}
use Rattle.std.proofs.lemmas.Bool.Decides.{nat_tests}
use Rattle.std.proofs.lemmas.List.{drop-append-le, drop-drop, append-nil}
use Rattle.std.proofs.lemmas.Option.{same_Some, none-some as none_some, slice_get_within}
use Rattle.cv_token.specs.declared.token.Token.{Token}
use Rattle.cv_token.specs.declared.identifiers.ActorId.{ActorId}
use Rattle.cv_token.specs.declared.identifiers.ConnId.{ConnId}
use Rattle.cv_table.proofs.Views.{same_actor-cases}
use Rattle.cv_behave.specs.declared.behave.Effect.{Effect}
use Rattle.cv_behave.specs.KindRow.{Grown, needed, given, guard_holds, has_counts, head_at, heads_of, effect_of, is_ready, action_count}
use Rattle.cv_kinds.specs.declared.network.ActorSpec.{ActorSpec}
use Rattle.cv_kinds.specs.KindRow.{row_of}
use Rattle.cv_kinds.proofs.Promises.{stays, gives_tokens, acts_within}
use Rattle.cv_queue.specs.declared.reader.Reader.{Reader}
use Rattle.cv_queue.specs.Ports.{OutView, IsOutPort, count, spread, space, needed_by, after_write, after_commit, first_needed, first_needed_from}
use Rattle.cv_queue.proofs.Lists.{slice_get_mapped}
use Rattle.cv_queue.proofs.Kept.{keeps_unread, keeps_write}
use Rattle.cv_endpoint.proofs.Effects.{after_write_is, token_for_pushed}
use Rattle.cv_endpoint.proofs.Lists.{slice_get_kept, slice_get_last}
use Rattle.cv_kahn.proofs.Rows.{same_heads}
use Rattle.cv_protocol.specs.declared.state.Inlet.{Inlet}
use Rattle.cv_protocol.specs.Actors.{Actor}
use Rattle.cv_protocol.specs.Poll.{limit, inputs, held_in, first_given, with_token, taken_from, without_needed, fired_actor, all_outs_fit}
use Rattle.cv_handover.specs.Meaning.{Nets, Meaning, spec_of, fresh, fed_by, waiting, waiting_all, may_fire, effect_in, gift_of, wrote_after, took_after, with_slots, fires}
use Rattle.cv_handover.specs.Agree.{InAgrees, ReaderAgrees, OutAgrees, ActorAgrees, Streams}
use Rattle.cv_handover.proofs.Copies.{streams_put}
use Rattle.cv_handover.proofs.Finding.{need_found, gift_found, left_at, fed_left, filled_at, read_filled, given_there}
use Rattle.cv_handover.proofs.Places.{set}
use Rattle.cv_handover.proofs.Ports.{same_length}
use Rattle.cv_handover.proofs.Polling.{CanFire, none_short, counts_there, none_crowded}
use Rattle.cv_handover.proofs.Streaming.{fed_at, read_at, out_same, actor_same}
use Rattle.cv_handover.proofs.Wiring.{FedAt, ReadAt, fed_is, one_seat, one_outlet, inlets_count}

-- 1. What an inport holds begins what waits there

begins : (xs ys : List Token) → ((i : ℕ) (t : Token) → slice_get xs i ≡ Some t → slice_get ys i ≡ Some t) → (end : List Token) × (ys ≡ xs ++ end)
begins [] ys all = (ys, refl)
begins (x ∷ xs) [] all = absurd (none_some x (all 0 x refl))
begins (x ∷ xs) (y ∷ ys) all =
    let e : y ≡ x = same_Some y x (all 0 x refl) in
    let rest = begins xs ys (λ i t h. all (suc i) t h) in
    (rest.0, λ z. e z ∷ rest.1 z)

held_begins : (n : Nets) (m : Meaning) (copy : ActorId → Actor) → Streams n m copy → (i : Option Inlet) → ((x : Inlet) → i ≡ Some x → InAgrees m x) → (end : List Token) × (waiting m (fed_by i) ≡ held_in i ++ end)
held_begins n m copy s None agrees = ([], refl)
held_begins n m copy s (Some x) agrees =
    let a = agrees x refl in
    let b = begins (m.got x.conn) (m.wrote x.conn) (s.ordered x.conn) in
    (b.0, ap (drop (m.took x.conn)) b.1 ∙ drop-append-le (m.took x.conn) (m.got x.conn) b.0 (s.taken x.conn) ∙ ap (λ (ts : List Token). ts ++ b.0) (sym a.held))

inputs_grown : (n : Nets) (m : Meaning) (copy : ActorId → Actor) → Streams n m copy → (ins : List (Option Inlet)) → ((p : ℕ) (i : Inlet) → slice_get ins p ≡ Some (Some i) → InAgrees m i) → Grown (inputs ins) (map (waiting m) (map fed_by ins))
inputs_grown n m copy s [] agrees = tt
inputs_grown n m copy s (i ∷ ins) agrees =
    (held_begins n m copy s i (λ x e. agrees 0 x (ap Some e)), inputs_grown n m copy s ins (λ p x e. agrees (suc p) x e))

map_map : {X Y Z : Type 0} (g : Y → Z) (f : X → Y) (xs : List X) → map (λ x. g (f x)) xs ≡ map g (map f xs)
map_map g f [] = refl
map_map g f (x ∷ xs) = λ z. g (f x) ∷ map_map g f xs z

-- 2. The action in the one runtime

-- what the action needs of each inport, by the network
abbrev pub need_in : Nets → ActorId → ℕ → ℕ → ℕ
need_in n a action = needed (row_of (spec_of n a).kind) (spec_of n a).args action

-- the effect of an action on the actor as it is
abbrev pub effect_on : Actor → ℕ → Effect
effect_on x action =
    effect_of (row_of x.spec.kind) x.spec.args x.slots action (heads_of (row_of x.spec.kind) x.spec.args action 0 (inputs x.ins))

module _ (n : Nets) (m : Meaning) (copy : ActorId → Actor) (s : Streams n m copy) (a : ActorId) (x : Actor) (action : ℕ) (g : ActorAgrees n m a x) (can : CanFire x action) where
  grown : Grown (inputs x.ins) (waiting_all n m a)
  grown =
      let e : map (waiting m) (map fed_by x.ins) ≡ waiting_all n m a = ap (map (waiting m)) g.alike.fed ∙ sym (map_map (waiting m) fed_by (fresh n a).ins) in
      subst (Grown (inputs x.ins)) e (inputs_grown n m copy s x.ins g.ins)

  full : length (inputs x.ins) ≡ (row_of (spec_of n a).kind).inports
  full = same_length held_in x.ins ∙ sym (same_length fed_by x.ins) ∙ ap length g.alike.fed ∙ same_length fed_by (fresh n a).ins ∙ inlets_count a.app (n.net a.app).connections a.actor 0 (row_of (spec_of n a).kind).inports

  ready_here : is_ready (row_of x.spec.kind) x.spec.args x.slots action (inputs x.ins) ≡ true
  ready_here = λ z. counts_there (row_of x.spec.kind) x.spec.args action 0 x.ins can.tokens z && can.guarded z

  ready_as : is_ready (row_of (spec_of n a).kind) (spec_of n a).args (m.slots a) action (inputs x.ins) ≡ true
  ready_as = sym (λ z. is_ready (row_of (g.alike.spec z).kind) (g.alike.spec z).args (g.alike.slots z) action (inputs x.ins)) ∙ ready_here

  pub ready_there : may_fire n m a action ≡ true
  ready_there = stays (spec_of n a).kind (spec_of n a).args (m.slots a) (inputs x.ins) (waiting_all n m a) action full grown ready_as

  pub same_effect : effect_on x action ≡ effect_in n m a action
  same_effect =
      let row = row_of (spec_of n a).kind in
      let counts = (and_parts (has_counts row (spec_of n a).args action 0 (inputs x.ins)) (guard_holds row (spec_of n a).args (m.slots a) action (head_at row.guard_port (inputs x.ins))) ready_as).0 in
      let h = same_heads row (spec_of n a).args action 0 (inputs x.ins) (waiting_all n m a) grown counts in
      (λ z. effect_of (row_of (g.alike.spec z).kind) (g.alike.spec z).args (g.alike.slots z) action (heads_of (row_of (g.alike.spec z).kind) (g.alike.spec z).args action 0 (inputs x.ins))) ∙ ap (λ (hs : List Token). effect_of row (spec_of n a).args (m.slots a) action hs) (sym h)

  -- what is needed of an inport is there
  enough : (p : ℕ) (i : Inlet) → slice_get x.ins p ≡ Some (Some i) → need_in n a action p ≤ length i.port.held
  enough p i e =
      let h = none_short (needed (row_of x.spec.kind) x.spec.args action) 0 x.ins can.tokens p (Some i) e in
      let z : 0 + p ≡ p = omega arith in
      let k : needed (row_of x.spec.kind) x.spec.args action (0 + p) ≡ need_in n a action p = ap (needed (row_of x.spec.kind) x.spec.args action) z ∙ ap (λ (y : ActorSpec). needed (row_of y.kind) y.args action p) g.alike.spec in
      subst (λ (k : ℕ). k ≤ length i.port.held) k h

  -- where a token is given there is a place for it
  roomy : (q : ℕ) (o : OutView) (t : Token) → slice_get x.outs q ≡ Some o → first_given (drop q (effect_in n m a action).out) ≡ Some t → 1 ≤ space o
  roomy q o t e f =
      let row = row_of x.spec.kind in
      let within : action < action_count row = acts_within row x.spec.args x.slots action (head_at row.guard_port (inputs x.ins)) can.guarded in
      let gives = gives_tokens x.spec.kind x.spec.args x.slots (heads_of row x.spec.args action 0 (inputs x.ins)) action q within in
      let out : first_given (drop q (effect_on x action).out) ≡ Some t = ap (λ (y : Effect). first_given (drop q y.out)) same_effect ∙ f in
      let one : length (option_to_list (unwrap_or (slice_get (effect_on x action).out q) None)) ≡ 1 = ap (λ (y : Option Token). length (option_to_list y)) (sym (given_there q (effect_on x action).out) ∙ out) in
      let z : 0 + q ≡ q = omega arith in
      let room : given row action q ≤ space o = subst (λ (k : ℕ). given row action k ≤ space o) z (none_crowded (given row action) 0 x.outs can.room q o e) in
      omega (arith, one, gives.1, room)

-- 3. What the one runtime takes and writes for a connection

module _ (n : Nets) (m : Meaning) (a : ActorId) (action : ℕ) where
  took_here : (p : ℕ) (c : ConnId) → FedAt n a p c → took_after n m a action c ≡ m.took c + need_in n a action p
  took_here p c f =
      elim (need_found (need_in n a action) 0 (fresh n a).ins c) [
        | inl q ↦
            let z : 0 + q.place ≡ q.place = omega arith in
            let e = one_seat n a a q.place p c q.feeds f in
            ap (λ (k : ℕ). m.took c + k) (q.needed ∙ ap (need_in n a action) (z ∙ e.1))
        | inr q ↦ absurd (q.feeds_none p f)
      ]

  took_elsewhere : (b : ActorId) (p : ℕ) (c : ConnId) → FedAt n b p c → ((b ≡ a) → ⊥) → took_after n m a action c ≡ m.took c
  took_elsewhere b p c f other =
      elim (need_found (need_in n a action) 0 (fresh n a).ins c) [
        | inl q ↦ absurd (other (one_seat n b a p q.place c f q.feeds).0)
        | inr q ↦ let z = q.needed in omega (arith, z)
      ]

  wrote_here : (q : ℕ) (c : ConnId) → ReadAt n a q c → wrote_after n m a action c ≡ m.wrote c ++ option_to_list (first_given (drop q (effect_in n m a action).out))
  wrote_here q c r =
      elim (gift_found (effect_in n m a action).out (fresh n a).outs c) [
        | inl f ↦
            let e = one_outlet n a a f.place q c (record { conns = f.conns; port = f.port; number = f.number; reads = f.reads }) r in
            ap (λ (ts : List Token). m.wrote c ++ ts) (f.given ∙ ap (λ (k : ℕ). option_to_list (first_given (drop k (effect_in n m a action).out))) e.1)
        | inr f ↦ absurd (f.read_nowhere q r.conns r.number r.port r.reads)
      ]

  wrote_elsewhere : (b : ActorId) (q : ℕ) (c : ConnId) → ReadAt n b q c → ((b ≡ a) → ⊥) → wrote_after n m a action c ≡ m.wrote c
  wrote_elsewhere b q c r other =
      elim (gift_found (effect_in n m a action).out (fresh n a).outs c) [
        | inl f ↦ absurd (other (one_outlet n b a q f.place c r (record { conns = f.conns; port = f.port; number = f.number; reads = f.reads })).0)
        | inr f ↦ ap (λ (ts : List Token). m.wrote c ++ ts) f.given ∙ append-nil (m.wrote c)
      ]

-- what was written stands
pub kept_behind : (xs more : List Token) (i : ℕ) (t : Token) → slice_get xs i ≡ Some t → slice_get (xs ++ more) i ≡ Some t
kept_behind [] more i t e = absurd (none_some t e)
kept_behind (x ∷ xs) more zero t e = e
kept_behind (x ∷ xs) more (suc i) t e = kept_behind xs more i t e

-- 4. Ports after the firing

inlet_taken : (m v : Meaning) (i : Inlet) (k : ℕ) → InAgrees m i → k ≤ length i.port.held → v.took i.conn ≡ m.took i.conn + k → v.got i.conn ≡ m.got i.conn → InAgrees v (record i { port = after_commit i.port k })
inlet_taken m v i k a few took got =
    let d = length-drop k i.port.held in
    let p = a.port in
    record {
      port = record {
        some_room = p.some_room;
        within_room = omega (arith, d, p.within_room);
        read_are_held = omega arith;
        bounded = omega (arith, d, few, p.bounded);
      };
      taken = ap (λ (j : ℕ). j + k) a.taken ∙ sym took;
      held = ap (drop k) a.held ∙ drop-drop k (m.took i.conn) (m.got i.conn) ∙ sym (λ z. drop (took z) (got z));
      arrived = omega (arith, d, few, a.arrived, ap length got);
    }

no_tokens : (ts : List Token) → length ts ≡ 0 → ts ≡ []
no_tokens [] e = refl
no_tokens (t ∷ ts) e = absurd (omega arith)

keeps_given : (o : OutView) (t : Token) (readers : List Reader) → o.readers ≡ readers → IsOutPort o → 1 ≤ space o → o.write < 2 ^ 62 → IsOutPort (record o { held = needed_by readers (o.held ++ t ∷ []); write = o.write + 1 })
keeps_given o t [] e p room small =
    let f : first_needed o ≡ o.write = ap (λ (rs : List Reader). first_needed_from (length rs) o.write 0 rs) e in
    let none : o.held ≡ [] = no_tokens o.held (omega (arith, f, p.held_from)) in
    subst (λ (ts : List Token). IsOutPort (record o { held = ts; write = o.write + 1 })) none (keeps_unread o e small p)
keeps_given o t (r ∷ readers) e p room small =
    let some : 0 < length o.readers = omega (arith, ap length e) in
    keeps_write o t some room small p

next_count : (s w k : ℕ) → count s (w + 1) k ≡ count s w k + 1
unfolding count
next_count s w k = refl

reader_written : (m v : Meaning) (o : OutView) (k : ℕ) (r : Reader) (t : Token) → OutAgrees m o → slice_get o.readers k ≡ Some r → IsOutPort (after_write o t) → v.wrote r.conn ≡ m.wrote r.conn ++ t ∷ [] → v.got r.conn ≡ m.got r.conn → ReaderAgrees v (after_write o t) k r
reader_written m v o k r t a e port wrote got =
    let b = a.readers k r e in
    let within : k < length o.readers = slice_get_within o.readers k r e in
    let some : 0 < length o.readers = omega arith in
    let is = after_write_is o t some in
    let l = length-append (m.wrote r.conn) (t ∷ []) in
    let q : ReaderAgrees v (record o { held = o.held ++ t ∷ []; write = o.write + 1 }) k r = record {
      counted = next_count (spread o) o.write k ∙ ap (λ (j : ℕ). j + 1) b.counted ∙ sym l ∙ ap length (sym wrote);
      kept =
          λ i u h.
          ap (λ (ts : List Token). slice_get ts i) wrote ∙ elim (token_for_pushed o t k i u a.port (subst IsOutPort is port) h) [
            | inl old ↦ slice_get_kept (m.wrote r.conn) t i u (b.kept i u old)
            | inr new ↦ slice_get_last (m.wrote r.conn) t i (new.0 ∙ b.counted) ∙ ap Some (sym new.2)
          ];
      confirmed = omega (arith, b.confirmed, ap length got);
    } in
    subst (λ (p : OutView). ReaderAgrees v p k r) (sym is) q

out_given : (m v : Meaning) (o : OutView) (given : Option Token) → OutAgrees m o → ((t : Token) → given ≡ Some t → (1 ≤ space o) × (o.write < 2 ^ 62)) → ((k : ℕ) (r : Reader) → slice_get o.readers k ≡ Some r → v.wrote r.conn ≡ m.wrote r.conn ++ option_to_list given) → ((c : ConnId) → v.got c ≡ m.got c) → OutAgrees v (with_token o given)
out_given m v o None a room wrote got =
    out_same m v o a (λ k r e. wrote k r e ∙ append-nil (m.wrote r.conn)) (λ c. omega (arith, ap length (got c)))
out_given m v o (Some t) a room wrote got =
    let q = room t refl in
    let p = keeps_given o t o.readers refl a.port q.0 q.1 in
    record { port = p; readers = λ k r e. reader_written m v o k r t a e p (wrote k r e) (got r.conn) }

outs_fit : (outs : List OutView) → all_outs_fit outs ≡ true → (q : ℕ) (o : OutView) → slice_get outs q ≡ Some o → o.write < limit
outs_fit [] h q o e = absurd (none_some o e)
outs_fit (x ∷ outs) h zero o e =
    let t : nat_lt x.write limit ≡ true = (and_parts (nat_lt x.write limit) (all_outs_fit outs) h).0 in
    let same : x ≡ o = same_Some x o e in
    subst (λ (y : OutView). y.write < limit) same (grind (arith, nat_tests, t))
outs_fit (x ∷ outs) h (suc q) o e = outs_fit outs (and_parts (nat_lt x.write limit) (all_outs_fit outs) h).1 q o e

fits_given : (o : OutView) (given : Option Token) (t : Token) → given ≡ Some t → (with_token o given).write < limit → o.write < 2 ^ 62
fits_given o None t e h = absurd (none_some t e)
fits_given o (Some u) t e h = omega (arith, h)

-- 5. The streams after the firing

slots_here : (slots : ActorId → List Token) (a : ActorId) (new : List Token) → with_slots slots a new a ≡ new
slots_here slots a new =
    elim (same_actor-cases a a) [ inl s ↦ ap (λ (b : Bool). if b then new else slots a) s.0 | inr s ↦ absurd (s.1 refl) ]

slots_elsewhere : (slots : ActorId → List Token) (a : ActorId) (new : List Token) (b : ActorId) → ((b ≡ a) → ⊥) → with_slots slots a new b ≡ slots b
slots_elsewhere slots a new b other =
    elim (same_actor-cases b a) [ inl s ↦ absurd (other s.1) | inr s ↦ ap (λ (t : Bool). if t then new else slots b) s.0 ]

module _ (n : Nets) (m : Meaning) (copy : ActorId → Actor) (s : Streams n m copy) (a : ActorId) (x : Actor) (action : ℕ) (is : x ≡ copy a) (can : CanFire x action) (fits : all_outs_fit (fired_actor x action).outs ≡ true) where
  agreed : ActorAgrees n m a x
  agreed = subst (ActorAgrees n m a) (sym is) (s.actors a)

  same_need : (p : ℕ) → needed (row_of x.spec.kind) x.spec.args action p ≡ need_in n a action p
  same_need p = ap (λ (y : ActorSpec). needed (row_of y.kind) y.args action p) agreed.alike.spec

  inlet_fired : (p : ℕ) (j : Inlet) (y : Option Inlet) → slice_get x.ins p ≡ Some y → Some j ≡ taken_from (needed (row_of x.spec.kind) x.spec.args action p) y → InAgrees (fires n m a action) j
  inlet_fired p j None e f = absurd (none_some j (sym f))
  inlet_fired p j (Some i) e f =
      let k : ℕ = needed (row_of x.spec.kind) x.spec.args action p in
      let took : took_after n m a action i.conn ≡ m.took i.conn + k = took_here n m a action p i.conn (fed_at n m a x p i agreed.alike e) ∙ ap (λ (c : ℕ). m.took i.conn + c) (sym (same_need p)) in
      let few : k ≤ length i.port.held = subst (λ (c : ℕ). c ≤ length i.port.held) (sym (same_need p)) (enough n m copy s a x action agreed can p i e) in
      let q = inlet_taken m (fires n m a action) i k (agreed.ins p i e) few took refl in
      subst (InAgrees (fires n m a action)) (sym (same_Some j (record i { port = after_commit i.port k }) f)) q

  inlets_fired : (p : ℕ) (j : Inlet) → slice_get (without_needed (needed (row_of x.spec.kind) x.spec.args action) 0 x.ins) p ≡ Some (Some j) → InAgrees (fires n m a action) j
  inlets_fired p j e =
      let f = left_at (needed (row_of x.spec.kind) x.spec.args action) 0 x.ins p (Some j) e in
      let z : 0 + p ≡ p = omega arith in
      inlet_fired p j f.before f.stood (f.after ∙ ap (λ (k : ℕ). taken_from (needed (row_of x.spec.kind) x.spec.args action k) f.before) z)

  outs_fired : (q : ℕ) (o : OutView) → slice_get (fired_actor x action).outs q ≡ Some o → OutAgrees (fires n m a action) o
  outs_fired q o e =
      let f = filled_at (effect_on x action).out x.outs q o e in
      let same : first_given (drop q (effect_on x action).out) ≡ first_given (drop q (effect_in n m a action).out) = ap (λ (y : Effect). first_given (drop q y.out)) (same_effect n m copy s a x action agreed can) in
      let after : o ≡ with_token f.before (first_given (drop q (effect_in n m a action).out)) = f.after ∙ ap (with_token f.before) same in
      let small : o.write < limit = outs_fit (fired_actor x action).outs fits q o e in
      let small_given : (with_token f.before (first_given (drop q (effect_in n m a action).out))).write < limit = subst (λ (y : OutView). y.write < limit) after small in
      let g = out_given m (fires n m a action) f.before (first_given (drop q (effect_in n m a action).out)) (agreed.outs q f.before f.stood) (λ t is_t. (roomy n m copy s a x action agreed can q f.before t f.stood is_t, fits_given f.before (first_given (drop q (effect_in n m a action).out)) t is_t small_given)) (λ k r h. wrote_here n m a action q r.conn (read_at n m a x q k f.before r agreed.alike f.stood h)) (λ c. refl) in
      subst (OutAgrees (fires n m a action)) (sym after) g

  actor_fired : ActorAgrees n (fires n m a action) a (fired_actor x action)
  actor_fired = record {
    alike = record {
      spec = agreed.alike.spec;
      slots = ap (λ (y : Effect). y.state) (same_effect n m copy s a x action agreed can) ∙ sym (slots_here m.slots a (effect_in n m a action).state);
      fed = fed_left (needed (row_of x.spec.kind) x.spec.args action) 0 x.ins ∙ agreed.alike.fed;
      read = read_filled (effect_on x action).out x.outs ∙ agreed.alike.read;
    };
    ins = inlets_fired;
    outs = outs_fired;
  }

  -- no more is taken than came
  taken_fired : (c : ConnId) → took_after n m a action c ≤ length (m.got c)
  taken_fired c =
      elim (need_found (need_in n a action) 0 (fresh n a).ins c) [
        | inl q ↦
            let z : 0 + q.place ≡ q.place = omega arith in
            let there : slice_get (map fed_by x.ins) q.place ≡ Some (Some c) = ap (λ (cs : List (Option ConnId)). slice_get cs q.place) agreed.alike.fed ∙ q.feeds in
            let i = slice_get_mapped fed_by x.ins q.place (Some c) there in
            let w = fed_is i.0 c i.2 in
            let few = enough n m copy s a x action agreed can q.place w.0 (i.1 ∙ ap Some w.1) in
            let held : length w.0.port.held ≡ length (drop (m.took c) (m.got c)) = ap length ((agreed.ins q.place w.0 (i.1 ∙ ap Some w.1)).held) ∙ ap (λ (d : ConnId). length (drop (m.took d) (m.got d))) w.2 in
            let need = q.needed ∙ ap (need_in n a action) z in
            omega (arith, few, held, need, length-drop (m.took c) (m.got c), s.taken c)
        | inr q ↦ omega (arith, q.needed, s.taken c)
      ]

  pub streams_fired : Streams n (fires n m a action) (set copy a (fired_actor x action))
  streams_fired =
      streams_put n m (fires n m a action) copy a (fired_actor x action) s actor_fired (λ b other. actor_same n m (fires n m a action) b (copy b) (s.actors b) (slots_elsewhere m.slots a (effect_in n m a action).state b other) (λ p c f. (took_elsewhere n m a action b p c f other, refl)) (λ q c r. wrote_elsewhere n m a action b q c r other) (λ c. omega arith)) (λ c i t e. kept_behind (m.wrote c) (gift_of (effect_in n m a action).out (fresh n a).outs c) i t (s.ordered c i t e)) taken_fired

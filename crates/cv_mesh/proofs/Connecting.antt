-- A node more joins a cluster.
use Rattle.std.proofs.Common.{◌≡◌, ◌⊎◌, inl, inr, ℕ, zero, suc, ◌<◌, List, [], ◌∷◌, ◌++◌, map, length, slice_get, slice_set, slice_index_or, ◌+◌, Some, refl, sym, ◌∙◌, ap, subst, arith}
use Rattle.std.proofs.lemmas.List.{length-append, length-map, map-append}
use Rattle.std.proofs.lemmas.Option.{same_Some, slice_get_within, get_or_from_slice_get}
use Rattle.cv_node.specs.Journalled.{Journalled}
use Rattle.cv_link.specs.declared.items.Item.{Item}
use Rattle.cv_link.specs.Ring as ends
use Rattle.cv_station.specs.declared.station.Peer.{Peer}
use Rattle.cv_station.specs.declared.station.Station.{Station}
use Rattle.cv_mesh.specs.Joining.{IsNewPeer, AreNew, AreConnected, Connects, ConnectsItself, GotPeer, ConnectedTo}
use Rattle.cv_mesh.specs.Keeping.{number_of}
use Rattle.cv_mesh.proofs.Listing.{at_place, got_here, got_other, length_set, same_map, same_maps}

-- 1. One element more

pub got_front : {X : Type 0} (xs : List X) (y : X) (i : ℕ) (x : X) → slice_get xs i ≡ Some x → slice_get (xs ++ y ∷ []) i ≡ Some x
got_front [] y i x at = absurd (cc)
got_front (z ∷ xs) y zero x at = at
got_front (z ∷ xs) y (suc i) x at = got_front xs y i x at

pub got_last : {X : Type 0} (xs : List X) (y : X) → slice_get (xs ++ y ∷ []) (length xs) ≡ Some y
got_last [] y = refl
got_last (z ∷ xs) y = got_last xs y

-- an element of the longer list is an old one, or the last
pub got_more : {X : Type 0} (xs : List X) (y : X) (i : ℕ) (x : X) → slice_get (xs ++ y ∷ []) i ≡ Some x → (slice_get xs i ≡ Some x) ⊎ ((i ≡ length xs) × (y ≡ x))
got_more [] y zero x at = inr (refl, same_Some y x at)
got_more [] y (suc i) x at = absurd (cc)
got_more (z ∷ xs) y zero x at = inl at
got_more (z ∷ xs) y (suc i) x at =
    elim (got_more xs y i x at) [ inl old ↦ inl old | inr last ↦ inr (ap suc last.0, last.1) ]

below_or : (i k : ℕ) → i < suc k → (i < k) ⊎ (i ≡ k)
below_or zero zero h = inr refl
below_or zero (suc k) h = inl (omega arith)
below_or (suc i) zero h = absurd (omega (arith, h))
below_or (suc i) (suc k) h = elim (below_or i k (omega (arith, h))) [ inl low ↦ inl (omega (arith, low)) | inr same ↦ inr (ap suc same) ]

-- 2. One station after the other is connected

pub connected_none : (items : List Item) (ss : List Station) (t : Station) → length t.peers.items ≡ 0 → ConnectedTo items ss 0 ss t
connected_none items ss t none = record {
  long = refl;
  many = none;
  before = λ i s at low. absurd (omega (arith, low));
  after = λ i s at high. at;
}

moved_to : (items : List Item) (s t v : Station) (p q : Peer) → v.node ≡ t.node → AreConnected items s t p q → AreConnected items s v p q
moved_to items s t v p q node c = record {
  to = c.to ∙ ap (λ (n : Journalled). n.base.spec.no) (sym node);
  from = c.from;
  here = c.here;
  there = subst (λ (n : Journalled). IsNewPeer items n.base.spec.no q) (sym node) c.there;
  forth = c.forth;
  back = c.back;
}

module _ (items : List Item) (ss now : List Station) (k : ℕ) (t : Station) (j : ConnectedTo items ss k now t) (s u v : Station) (at : slice_get ss k ≡ Some s) (c : Connects items s t u v) where
  before_on : (i : ℕ) (x : Station) → slice_get ss i ≡ Some x → i < k → (y : Station) × (slice_get (slice_set now k u) i ≡ Some y) × GotPeer items x v y i
  before_on i x at_i low =
      let old = j.before i x at_i low in
      let g = old.2 in (
        old.0,
        got_other now k i u (λ same. absurd (omega (arith, same, low))) ∙ old.1,
        record {
          peer = g.peer;
          other = g.other;
          node = g.node;
          peers = g.peers;
          at = ap (λ (ps : List Peer). slice_get ps i) c.other_peers ∙ got_front t.peers.items c.other i g.other g.at;
          connected = moved_to items x t v g.peer g.other c.other_node g.connected;
        },
      )

  here_on : (x : Station) → s ≡ x → (y : Station) × (slice_get (slice_set now k u) k ≡ Some y) × GotPeer items x v y k
  here_on x same = (
    u,
    got_here now k u (let h = slice_get_within ss k s at in omega (arith, h, j.long)),
    subst (λ (z : Station). GotPeer items z v u k) same (record {
      peer = c.peer;
      other = c.other;
      node = c.node;
      peers = c.peers;
      at = ap (λ (ps : List Peer). slice_get ps k) c.other_peers ∙ ap (λ n. slice_get (t.peers.items ++ c.other ∷ []) n) (sym j.many) ∙ got_last t.peers.items c.other;
      connected = moved_to items s t v c.peer c.other c.other_node c.connected;
    }),
  )

  either_on : (i : ℕ) (x : Station) → slice_get ss i ≡ Some x → (i < k) ⊎ (i ≡ k) → (y : Station) × (slice_get (slice_set now k u) i ≡ Some y) × GotPeer items x v y i
  either_on i x at_i (inl low) = before_on i x at_i low
  either_on i x at_i (inr same) =
      let here = here_on x (same_Some s x (sym at ∙ ap (slice_get ss) (sym same) ∙ at_i)) in
      subst (λ (n : ℕ). (y : Station) × (slice_get (slice_set now k u) n ≡ Some y) × GotPeer items x v y n) (sym same) here

  pub connected_more : ConnectedTo items ss (suc k) (slice_set now k u) v
  connected_more = record {
    long = length_set now k u ∙ j.long;
    many = ap length c.other_peers ∙ length-append t.peers.items (c.other ∷ []) ∙ (let m = j.many in omega (arith, m));
    before = λ i x at_i low. either_on i x at_i (below_or i k low);
    after = λ i x at_i high. got_other now k i u (λ same. absurd (omega (arith, same, high))) ∙ j.after i x at_i (omega (arith, high));
  }

-- 3. The new station is connected to itself and to all

module _ (items : List Item) (given : List Journalled) (one : Journalled) (ss now : List Station) (new : AreNew items given ss) (t w : Station) (own : Peer) (j : ConnectedTo items ss (length ss) now t) (node : t.node ≡ one) (same_node : w.node ≡ t.node) (peers : w.peers.items ≡ t.peers.items ++ own ∷ []) (number : own.no ≡ number_of t) (unused : IsNewPeer items (number_of t) own) (joined : ends.AreEnds own.tx own.rx) where
  abbrev all : List Station
  all = now ++ w ∷ []

  -- a station that was there
  record Old (i : ℕ) (u : Station) : Type 0 where
    station : Station
    at : slice_get ss i ≡ Some station
    got : GotPeer items station t u i

  old : (i : ℕ) (u : Station) → slice_get now i ≡ Some u → Old i u
  old i u at =
      let h = slice_get_within now i u at in
      let s = at_place ss i (omega (arith, h, j.long)) in
      let b = j.before i s.0 s.1 (omega (arith, h, j.long)) in
      subst (Old i) (same_Some b.0 u (sym b.1 ∙ at)) (record { station = s.0; at = s.1; got = b.2 })

  numbers : map number_of now ≡ map number_of ss
  numbers =
      same_map number_of ss now j.long (λ i s at.
      let b = j.before i s at (slice_get_within ss i s at) in (b.0, b.1, ap (λ (n : Journalled). n.base.spec.no) b.2.node))

  all_numbers : map number_of all ≡ map number_of ss ++ number_of t ∷ []
  all_numbers =
      map-append number_of now (w ∷ []) ∙ ap (λ ns. ns ++ number_of w ∷ []) numbers ∙ ap (λ (n : Journalled). map number_of ss ++ n.base.spec.no ∷ []) same_node

  nodes : map (λ (s : Station). s.node) all ≡ given ++ one ∷ []
  nodes =
      map-append (λ (s : Station). s.node) now (w ∷ [])
      ∙ ap (λ ns. ns ++ w.node ∷ []) (same_map (λ (s : Station). s.node) ss now j.long (λ i s at. let b = j.before i s at (slice_get_within ss i s at) in (b.0, b.1, b.2.node)) ∙ new.nodes)
      ∙ ap (λ n. given ++ n ∷ []) (same_node ∙ node)

  -- what the new station has of those that were there
  mine : map (λ (p : Peer). p.no) t.peers.items ≡ map number_of ss
  mine =
      same_maps number_of (λ (p : Peer). p.no) ss t.peers.items j.many (λ i s at.
      let b = j.before i s at (slice_get_within ss i s at) in (b.2.other, b.2.at, b.2.connected.from))

  peers_by : (i : ℕ) (u : Station) → (slice_get now i ≡ Some u) ⊎ ((i ≡ length now) × (w ≡ u)) → map (λ (p : Peer). p.no) u.peers.items ≡ map number_of all
  peers_by i u (inl at) =
      let o = old i u at in
      ap (map (λ (p : Peer). p.no)) o.got.peers
      ∙ map-append (λ (p : Peer). p.no) o.station.peers.items (o.got.peer ∷ [])
      ∙ ap (λ ns. ns ++ o.got.peer.no ∷ []) (new.peers i o.station o.at)
      ∙ ap (λ n. map number_of ss ++ n ∷ []) o.got.connected.to
      ∙ sym all_numbers
  peers_by i u (inr last) =
      ap (λ (x : Station). map (λ (p : Peer). p.no) x.peers.items) (sym last.1)
      ∙ ap (map (λ (p : Peer). p.no)) peers
      ∙ map-append (λ (p : Peer). p.no) t.peers.items (own ∷ [])
      ∙ ap (λ ns. ns ++ own.no ∷ []) mine
      ∙ ap (λ n. map number_of ss ++ n ∷ []) number
      ∙ sym all_numbers

  -- a peer of the new station, but itself
  record Other (i : ℕ) (q : Peer) : Type 0 where
    station : Station
    at : slice_get ss i ≡ Some station
    peer : Peer
    became : Station
    here : slice_get now i ≡ Some became
    got : became.peers.items ≡ station.peers.items ++ peer ∷ []
    same : became.node ≡ station.node
    connected : AreConnected items station t peer q

  other : (i : ℕ) (q : Peer) → slice_get t.peers.items i ≡ Some q → Other i q
  other i q at =
      let h = slice_get_within t.peers.items i q at in
      let s = at_place ss i (omega (arith, h, j.many)) in
      let b = j.before i s.0 s.1 (omega (arith, h, j.many)) in
      subst (Other i) (same_Some b.2.other q (sym b.2.at ∙ at)) (record {
        station = s.0;
        at = s.1;
        peer = b.2.peer;
        became = b.0;
        here = b.1;
        got = b.2.peers;
        same = b.2.node;
        connected = b.2.connected;
      })

  fresh : (n : Journalled) (m : Journalled) (p : Peer) → n ≡ m → IsNewPeer items m.base.spec.no p → IsNewPeer items n.base.spec.no p
  fresh n m p same k = subst (λ (x : Journalled). IsNewPeer items x.base.spec.no p) (sym same) k

  old_new : (i k : ℕ) (u : Station) (p : Peer) (o : Old i u) → (slice_get o.station.peers.items k ≡ Some p) ⊎ ((k ≡ length o.station.peers.items) × (o.got.peer ≡ p)) → IsNewPeer items (number_of u) p
  old_new i k u p o (inl at) = fresh u.node o.station.node p o.got.node (new.new i k o.station p o.at at)
  old_new i k u p o (inr last) = fresh u.node o.station.node p o.got.node (subst (λ (x : Peer). IsNewPeer items (number_of o.station) x) last.1 o.got.connected.here)

  last_new : (k : ℕ) (p : Peer) → (slice_get t.peers.items k ≡ Some p) ⊎ ((k ≡ length t.peers.items) × (own ≡ p)) → IsNewPeer items (number_of w) p
  last_new k p (inl at) = fresh w.node t.node p same_node (other k p at).connected.there
  last_new k p (inr last) = fresh w.node t.node p same_node (subst (λ (x : Peer). IsNewPeer items (number_of t) x) last.1 unused)

  peers_of : (i k : ℕ) (u : Station) (p : Peer) (o : Old i u) → slice_get u.peers.items k ≡ Some p → (slice_get o.station.peers.items k ≡ Some p) ⊎ ((k ≡ length o.station.peers.items) × (o.got.peer ≡ p))
  peers_of i k u p o at =
      got_more o.station.peers.items o.got.peer k p (ap (λ (ps : List Peer). slice_get ps k) (sym o.got.peers) ∙ at)

  peers_last : (k : ℕ) (u : Station) (p : Peer) → w ≡ u → slice_get u.peers.items k ≡ Some p → (slice_get t.peers.items k ≡ Some p) ⊎ ((k ≡ length t.peers.items) × (own ≡ p))
  peers_last k u p same at =
      got_more t.peers.items own k p (ap (λ (ps : List Peer). slice_get ps k) (sym peers) ∙ ap (λ (x : Station). slice_get x.peers.items k) same ∙ at)

  new_by : (i k : ℕ) (u : Station) (p : Peer) → (slice_get now i ≡ Some u) ⊎ ((i ≡ length now) × (w ≡ u)) → slice_get u.peers.items k ≡ Some p → IsNewPeer items (number_of u) p
  new_by i k u p (inl at) at_p = let o = old i u at in old_new i k u p o (peers_of i k u p o at_p)
  new_by i k u p (inr last) at_p =
      subst (λ (x : Station). IsNewPeer items (number_of x) p) last.1 (last_new k p (peers_last k u p last.1 at_p))

  -- each station that was there has as many peers as there were stations
  many_old : (i : ℕ) (s : Station) → slice_get ss i ≡ Some s → length s.peers.items ≡ length ss
  many_old i s at =
      sym (length-map s.peers.items (λ (p : Peer). p.no)) ∙ ap length (new.peers i s at) ∙ length-map ss number_of

  -- the ends that two stations have of each other
  both_old : (i k : ℕ) (u v : Station) (p q : Peer) → slice_get now i ≡ Some u → slice_get now k ≡ Some v → slice_get u.peers.items k ≡ Some p → slice_get v.peers.items i ≡ Some q → ends.AreEnds p.tx q.rx
  both_old i k u v p q at_u at_v at_p at_q =
      let o = old i u at_u in
      let r = old k v at_v in
      elim (peers_of i k u p o at_p) [
        | inl p_old ↦ elim (peers_of k i v q r at_q) [
          | inl q_old ↦ new.joined i k o.station r.station p q o.at r.at p_old q_old
          | inr q_last ↦ absurd (let h = slice_get_within now i u at_u in let m = many_old k r.station r.at in let e = q_last.0 in omega (arith, h, m, e, j.long))
        ]
        | inr p_last ↦ absurd (let h = slice_get_within now k v at_v in let m = many_old i o.station o.at in let e = p_last.0 in omega (arith, h, m, e, j.long))
      ]

  -- the ends that a station that was there, and the new one, have of each other
  old_and_last : (i : ℕ) (u : Station) (p q : Peer) → slice_get now i ≡ Some u → slice_get u.peers.items (length now) ≡ Some p → slice_get w.peers.items i ≡ Some q → ends.AreEnds p.tx q.rx × ends.AreEnds q.tx p.rx
  old_and_last i u p q at_u at_p at_q =
      let o = old i u at_u in
      let m = many_old i o.station o.at in
      let is_last : o.got.peer ≡ p = elim (peers_of i (length now) u p o at_p) [
        | inl early ↦ absurd (let h = slice_get_within o.station.peers.items (length now) p early in omega (arith, h, m, j.long))
        | inr late ↦ late.1
      ] in
      let is_early : slice_get t.peers.items i ≡ Some q = elim (peers_last i w q refl at_q) [
        | inl early ↦ early
        | inr late ↦ absurd (let h = slice_get_within now i u at_u in let e = late.0 in omega (arith, h, e, j.many, j.long))
      ] in
      let same : o.got.other ≡ q = same_Some o.got.other q (sym o.got.at ∙ is_early) in (
        subst (λ (x : Peer). ends.AreEnds x.tx q.rx) is_last (subst (λ (y : Peer). ends.AreEnds o.got.peer.tx y.rx) same o.got.connected.forth),
        subst (λ (x : Peer). ends.AreEnds q.tx x.rx) is_last (subst (λ (y : Peer). ends.AreEnds y.tx o.got.peer.rx) same o.got.connected.back),
      )

  -- the ends that the new station has of itself
  itself : (p q : Peer) → slice_get w.peers.items (length now) ≡ Some p → slice_get w.peers.items (length now) ≡ Some q → ends.AreEnds p.tx q.rx
  itself p q at_p at_q =
      let place : length t.peers.items ≡ length now = omega (arith, j.many, j.long) in
      let at : slice_get w.peers.items (length now) ≡ Some own = ap (λ (ps : List Peer). slice_get ps (length now)) peers ∙ ap (λ n. slice_get (t.peers.items ++ own ∷ []) n) (sym place) ∙ got_last t.peers.items own in
      subst (λ (x : Peer). ends.AreEnds x.tx q.rx) (same_Some own p (sym at ∙ at_p)) (subst (λ (y : Peer). ends.AreEnds own.tx y.rx) (same_Some own q (sym at ∙ at_q)) joined)

  joined_by : (i k : ℕ) (u v : Station) (p q : Peer) → (slice_get now i ≡ Some u) ⊎ ((i ≡ length now) × (w ≡ u)) → (slice_get now k ≡ Some v) ⊎ ((k ≡ length now) × (w ≡ v)) → slice_get u.peers.items k ≡ Some p → slice_get v.peers.items i ≡ Some q → ends.AreEnds p.tx q.rx
  joined_by i k u v p q (inl at_u) (inl at_v) at_p at_q = both_old i k u v p q at_u at_v at_p at_q
  joined_by i k u v p q (inl at_u) (inr last) at_p at_q =
      (old_and_last i u p q at_u (ap (λ n. slice_get u.peers.items n) (sym last.0) ∙ at_p) (ap (λ (x : Station). slice_get x.peers.items i) last.1 ∙ at_q)).0
  joined_by i k u v p q (inr last) (inl at_v) at_p at_q =
      (old_and_last k v q p at_v (ap (λ n. slice_get v.peers.items n) (sym last.0) ∙ at_q) (ap (λ (x : Station). slice_get x.peers.items k) last.1 ∙ at_p)).1
  joined_by i k u v p q (inr last) (inr late) at_p at_q =
      itself p q (ap (λ (x : Station). slice_get x.peers.items (length now)) last.1 ∙ ap (λ n. slice_get u.peers.items n) (sym late.0) ∙ at_p) (ap (λ (x : Station). slice_get x.peers.items (length now)) late.1 ∙ ap (λ n. slice_get v.peers.items n) (sym last.0) ∙ at_q)

  pub one_more : AreNew items (given ++ one ∷ []) (now ++ w ∷ [])
  one_more = record {
    nodes = nodes;
    peers = λ i u at. peers_by i u (got_more now w i u at);
    new = λ i k u p at at_p. new_by i k u p (got_more now w i u at) at_p;
    joined = λ i k u v p q at_u at_v at_p at_q. joined_by i k u v p q (got_more now w i u at_u) (got_more now w k v at_v) at_p at_q;
  }

-- 4. No station yet

pub new_none : (items : List Item) → AreNew items [] []
new_none items = record {
  nodes = refl;
  peers = λ i s at. absurd (cc);
  new = λ i j s p at at_p. absurd (cc);
  joined = λ i j s t p q at_s at_t at_p at_q. absurd (cc);
}

-- 5. The steps of the code

-- the next station of those that were there
pub connected_next : (items : List Item) (ss now : List Station) (k : ℕ) (t u v s : Station) → ConnectedTo items ss k now t → k < length ss → slice_index_or now k s ≡ s → Connects items s t u v → ConnectedTo items ss (k + 1) (slice_set now k u) v
connected_next items ss now k t u v s j inside here c =
    let old = at_place ss k inside in
    let still = j.after k old.0 old.1 (omega arith) in
    let same : old.0 ≡ s = sym (get_or_from_slice_get now k old.0 s still) ∙ here in
    let at : slice_get ss k ≡ Some s = old.1 ∙ ap Some same in
    subst (λ (n : ℕ). ConnectedTo items ss n (slice_set now k u) v) (omega arith) (connected_more items ss now k t j s u v at c)

-- the new station, once it is connected to all and to itself
pub joins : (items : List Item) (given : List Journalled) (one : Journalled) (ss now : List Station) (t w : Station) (more : List Station) (k : ℕ) → AreNew items given ss → ConnectedTo items ss k now t → k ≡ length ss → t.node ≡ one → ConnectsItself items t w → more ≡ now ++ w ∷ [] → AreNew items (given ++ one ∷ []) more
joins items given one ss now t w more k new j whole node c is =
    subst (AreNew items (given ++ one ∷ [])) (sym is)
    (one_more items given one ss now new t w c.own (subst (λ (n : ℕ). ConnectedTo items ss n now t) whole j) node c.node c.peers c.number c.unused c.joined)

-- Rings that are looked at, one after the other.
use Rattle.std.proofs.Common.{◌≡◌, ◌≢◌, ◌⊎◌, inl, inr, ℕ, zero, suc, ◌+◌, ◌-◌, ◌<◌, List, [], ◌∷◌, ◌++◌, length, slice_get, slice_set, slice_index_or, Some, refl, sym, ◌∙◌, ap, subst, arith}
use Rattle.std.proofs.lemmas.List.{length-append, set-append_left, set-append_right}
use Rattle.std.proofs.lemmas.Option.{same_Some, slice_get_within, get_or_from_slice_get}
use Rattle.cv_link.specs.Ring as ends
use Rattle.cv_link.proofs.Ends.{ends_stay, tx_stays, rx_stays}
use Rattle.cv_station.specs.declared.station.Peer.{Peer}
use Rattle.cv_station.specs.declared.station.Station.{Station}
use Rattle.cv_mesh.specs.Moving.{AreJoined, AreMeshed, Each, EndsMeet, IsLooked, Looks, LooksAtItself, LooksBetween, PeerLooks}
use Rattle.cv_mesh.proofs.Going.{looks_self}
use Rattle.cv_mesh.proofs.Listing.{at_place, each_self, each_then, each_back, each_set, got_here, got_other, length_set}
use Rattle.cv_mesh.proofs.Passing.{below_or}

-- a number is another one, or not
is_eq : (a b : ℕ) → (a ≡ b) ⊎ (a ≢ b)
is_eq zero zero = inl refl
is_eq zero (suc b) = inr (λ same. absurd (omega (arith, same)))
is_eq (suc a) zero = inr (λ same. absurd (omega (arith, same)))
is_eq (suc a) (suc b) = elim (is_eq a b) [ inl same ↦ inl (ap suc same) | inr other ↦ inr (λ same. other (let e : a ≡ b = omega (arith, same) in e)) ]

pub peer_looks_then : (p q r : Peer) → PeerLooks p q → PeerLooks q r → PeerLooks p r
peer_looks_then p q r first second = record {
  number = second.number ∙ first.number;
  tx = tx_stays p.tx q.tx r.tx first.tx second.tx;
  rx = rx_stays p.rx q.rx r.rx first.rx second.rx;
  pushed = second.pushed ∙ first.pushed;
  taken = second.taken ∙ first.taken;
  plan = second.plan ∙ first.plan;
}

pub looks_then : (s t u : Station) → Looks s t → Looks t u → Looks s u
looks_then s t u first second = record {
  node = second.node ∙ first.node;
  peers = each_then PeerLooks PeerLooks PeerLooks peer_looks_then s.peers.items t.peers.items u.peers.items first.peers second.peers;
}

-- ends stay joined
pub looks_joined : (ss us : List Station) → Each Looks ss us → AreJoined ss → AreJoined us
looks_joined ss us looks joined i j u v p q at_u at_v at_p at_q =
    let s = each_back Looks ss us looks i u at_u in
    let t = each_back Looks ss us looks j v at_v in
    let p' = each_back PeerLooks s.0.peers.items u.peers.items s.2.peers j p at_p in
    let q' = each_back PeerLooks t.0.peers.items v.peers.items t.2.peers i q at_q in
    ends_stay p'.0.tx p.tx q'.0.rx q.rx (joined i j s.0 t.0 p'.0 q'.0 s.1 t.1 p'.1 q'.1) p'.2.tx q'.2.rx

-- one ring was looked at: one end is its sender's peer, the other its receiver's
module _ (ss us : List Station) (from to : ℕ) (other : from ≢ to) (s t s' t' : Station) (at_s : slice_get ss from ≡ Some s) (at_t : slice_get ss to ≡ Some t) (is : us ≡ slice_set (slice_set ss from s') to t') (k : LooksBetween s t from to s' t') where
  long : length us ≡ length ss
  long = ap length is ∙ length_set (slice_set ss from s') to t' ∙ length_set ss from s'

  -- who sends looks as it did but for the one end, and so does who receives
  sender_looks : Looks s s'
  sender_looks = record {
    node = k.sender;
    peers = subst (Each PeerLooks s.peers.items) (sym k.sends) (each_set PeerLooks looks_self s.peers.items to k.tx_new (λ p at. subst (λ (x : Peer). PeerLooks x k.tx_new) (same_Some k.tx_old p (sym k.tx_at ∙ at)) k.tx_looks));
  }

  receiver_looks : Looks t t'
  receiver_looks = record {
    node = k.receiver;
    peers = subst (Each PeerLooks t.peers.items) (sym k.receives) (each_set PeerLooks looks_self t.peers.items from k.rx_new (λ p at. subst (λ (x : Peer). PeerLooks x k.rx_new) (same_Some k.rx_old p (sym k.rx_at ∙ at)) k.rx_looks));
  }

  looks_station : (x : Station) → Looks x x
  looks_station x = record { node = refl; peers = each_self PeerLooks looks_self x.peers.items }

  first : Each Looks ss (slice_set ss from s')
  first = each_set Looks looks_station ss from s' (λ x at. subst (λ (y : Station). Looks y s') (same_Some s x (sym at_s ∙ at)) sender_looks)

  still : slice_get (slice_set ss from s') to ≡ Some t
  still = got_other ss from to s' (λ same. other (sym same)) ∙ at_t

  second : Each Looks (slice_set ss from s') (slice_set (slice_set ss from s') to t')
  second = each_set Looks looks_station (slice_set ss from s') to t' (λ x at. subst (λ (y : Station). Looks y t') (same_Some t x (sym still ∙ at)) receiver_looks)

  pub all_look : Each Looks ss us
  all_look = subst (Each Looks ss) (sym is) (each_then Looks Looks Looks looks_then ss (slice_set ss from s') (slice_set (slice_set ss from s') to t') first second)

  -- a station as it was
  record Was (i : ℕ) (u : Station) : Type 0 where
    station : Station
    at : slice_get ss i ≡ Some station
    -- its sending end towards each station but the one that was looked at stays, and so does its receiving end
    tx_stays : (j : ℕ) (p : Peer) → slice_get u.peers.items j ≡ Some p → ((i ≡ from) → (j ≡ to) → ⊥) → (q : Peer) × (slice_get station.peers.items j ≡ Some q) × (p.tx ≡ q.tx)
    rx_stays : (j : ℕ) (p : Peer) → slice_get u.peers.items j ≡ Some p → ((i ≡ to) → (j ≡ from) → ⊥) → (q : Peer) × (slice_get station.peers.items j ≡ Some q) × (p.rx ≡ q.rx)

  -- a peer of the sender
  sender_peer : (j : ℕ) (p : Peer) → slice_get s'.peers.items j ≡ Some p → ((j ≡ to) × (k.tx_new ≡ p)) ⊎ ((j ≢ to) × (slice_get s.peers.items j ≡ Some p))
  sender_peer j p at = by_place (is_eq j to)
    where
      by_place : (j ≡ to) ⊎ (j ≢ to) → ((j ≡ to) × (k.tx_new ≡ p)) ⊎ ((j ≢ to) × (slice_get s.peers.items j ≡ Some p))
      by_place (inl same) =
          let here : slice_get s'.peers.items j ≡ Some k.tx_new = ap (λ (ps : List Peer). slice_get ps j) k.sends ∙ ap (slice_get (slice_set s.peers.items to k.tx_new)) same ∙ got_here s.peers.items to k.tx_new (slice_get_within s.peers.items to k.tx_old k.tx_at) in
          inl (same, same_Some k.tx_new p (sym here ∙ at))
      by_place (inr not_same) =
          inr (not_same, sym (got_other s.peers.items to j k.tx_new not_same) ∙ sym (ap (λ (ps : List Peer). slice_get ps j) k.sends) ∙ at)

  receiver_peer : (j : ℕ) (p : Peer) → slice_get t'.peers.items j ≡ Some p → ((j ≡ from) × (k.rx_new ≡ p)) ⊎ ((j ≢ from) × (slice_get t.peers.items j ≡ Some p))
  receiver_peer j p at = by_place (is_eq j from)
    where
      by_place : (j ≡ from) ⊎ (j ≢ from) → ((j ≡ from) × (k.rx_new ≡ p)) ⊎ ((j ≢ from) × (slice_get t.peers.items j ≡ Some p))
      by_place (inl same) =
          let here : slice_get t'.peers.items j ≡ Some k.rx_new = ap (λ (ps : List Peer). slice_get ps j) k.receives ∙ ap (slice_get (slice_set t.peers.items from k.rx_new)) same ∙ got_here t.peers.items from k.rx_new (slice_get_within t.peers.items from k.rx_old k.rx_at) in
          inl (same, same_Some k.rx_new p (sym here ∙ at))
      by_place (inr not_same) =
          inr (not_same, sym (got_other t.peers.items from j k.rx_new not_same) ∙ sym (ap (λ (ps : List Peer). slice_get ps j) k.receives) ∙ at)

  was_sender : Was from s'
  was_sender = record {
    station = s;
    at = at_s;
    tx_stays = λ j p at never.
        elim (sender_peer j p at) [ inl here ↦ absurd (never refl here.0) | inr there ↦ (p, there.1, refl) ];
    rx_stays = λ j p at never.
        elim (sender_peer j p at) [
          | inl here ↦ (k.tx_old, ap (slice_get s.peers.items) here.0 ∙ k.tx_at, ap (λ (x : Peer). x.rx) (sym here.1) ∙ k.tx_other)
          | inr there ↦ (p, there.1, refl)
        ];
  }

  was_receiver : Was to t'
  was_receiver = record {
    station = t;
    at = at_t;
    tx_stays = λ j p at never.
        elim (receiver_peer j p at) [
          | inl here ↦ (k.rx_old, ap (slice_get t.peers.items) here.0 ∙ k.rx_at, ap (λ (x : Peer). x.tx) (sym here.1) ∙ k.rx_other)
          | inr there ↦ (p, there.1, refl)
        ];
    rx_stays = λ j p at never.
        elim (receiver_peer j p at) [ inl here ↦ absurd (never refl here.0) | inr there ↦ (p, there.1, refl) ];
  }

  was_other : (i : ℕ) (u : Station) → slice_get ss i ≡ Some u → Was i u
  was_other i u at = record {
    station = u;
    at = at;
    tx_stays = λ j p here never. (p, here, refl);
    rx_stays = λ j p here never. (p, here, refl);
  }

  was : (i : ℕ) (u : Station) → slice_get us i ≡ Some u → Was i u
  was i u at = by_place (is_eq i to) (is_eq i from)
    where
      in_set : slice_get (slice_set (slice_set ss from s') to t') i ≡ Some u
      in_set = ap (λ (xs : List Station). slice_get xs i) (sym is) ∙ at

      by_place : (i ≡ to) ⊎ (i ≢ to) → (i ≡ from) ⊎ (i ≢ from) → Was i u
      by_place (inl same) at_from =
          let inside : to < length (slice_set ss from s') = (let l = length_set ss from s' in let h = slice_get_within ss to t at_t in omega (arith, l, h)) in
          let here : slice_get (slice_set (slice_set ss from s') to t') to ≡ Some t' = got_here (slice_set ss from s') to t' inside in
          let now : t' ≡ u = same_Some t' u (sym here ∙ ap (slice_get (slice_set (slice_set ss from s') to t')) (sym same) ∙ in_set) in
          subst (λ (n : ℕ). Was n u) (sym same) (subst (Was to) now was_receiver)
      by_place (inr far) (inl same) =
          let here : slice_get (slice_set ss from s') from ≡ Some s' = got_here ss from s' (slice_get_within ss from s at_s) in
          let now : s' ≡ u = same_Some s' u (sym here ∙ ap (slice_get (slice_set ss from s')) (sym same) ∙ sym (got_other (slice_set ss from s') to i t' far) ∙ in_set) in
          subst (λ (n : ℕ). Was n u) (sym same) (subst (Was from) now was_sender)
      by_place (inr far) (inr farther) =
          was_other i u (sym (got_other ss from i s' farther) ∙ sym (got_other (slice_set ss from s') to i t' far) ∙ in_set)

  -- the ring itself
  looked_here : (i j : ℕ) (u v : Station) (p q : Peer) → i ≡ from → j ≡ to → slice_get us i ≡ Some u → slice_get us j ≡ Some v → slice_get u.peers.items j ≡ Some p → slice_get v.peers.items i ≡ Some q → ends.taken q.rx ++ ends.known q.rx ≡ ends.pushed p.tx
  looked_here i j u v p q i_is j_is at_u at_v at_p at_q =
      let sender : slice_get us from ≡ Some s' = ap (λ (xs : List Station). slice_get xs from) is ∙ got_other (slice_set ss from s') to from t' other ∙ got_here ss from s' (slice_get_within ss from s at_s) in
      let inside : to < length (slice_set ss from s') = (let l = length_set ss from s' in let h = slice_get_within ss to t at_t in omega (arith, l, h)) in
      let receiver : slice_get us to ≡ Some t' = ap (λ (xs : List Station). slice_get xs to) is ∙ got_here (slice_set ss from s') to t' inside in
      let is_u : s' ≡ u = same_Some s' u (sym sender ∙ ap (slice_get us) (sym i_is) ∙ at_u) in
      let is_v : t' ≡ v = same_Some t' v (sym receiver ∙ ap (slice_get us) (sym j_is) ∙ at_v) in
      let p_here : slice_get s'.peers.items j ≡ Some p = ap (λ (x : Station). slice_get x.peers.items j) is_u ∙ at_p in
      let q_here : slice_get t'.peers.items i ≡ Some q = ap (λ (x : Station). slice_get x.peers.items i) is_v ∙ at_q in
      let is_p : k.tx_new ≡ p = elim (sender_peer j p p_here) [ inl here ↦ here.1 | inr there ↦ absurd (there.0 j_is) ] in
      let is_q : k.rx_new ≡ q = elim (receiver_peer i q q_here) [ inl here ↦ here.1 | inr there ↦ absurd (there.0 i_is) ] in
      ap (λ (x : Peer). ends.taken x.rx ++ ends.known x.rx) (sym is_q) ∙ k.looked ∙ ap (λ (x : Peer). ends.pushed x.tx) is_p

  pub is_looked : IsLooked us from to
  is_looked u v p q at_u at_v at_p at_q = looked_here from to u v p q refl refl at_u at_v at_p at_q

  pub stays_looked : (i j : ℕ) → IsLooked ss i j → IsLooked us i j
  stays_looked i j looked u v p q at_u at_v at_p at_q = by_ring (is_eq i from) (is_eq j to)
    where
      elsewhere : ((i ≡ from) → (j ≡ to) → ⊥) → ends.taken q.rx ++ ends.known q.rx ≡ ends.pushed p.tx
      elsewhere never =
          let a = was i u at_u in
          let b = was j v at_v in
          let p' = a.tx_stays j p at_p never in
          let q' = b.rx_stays i q at_q (λ j_is i_is. never i_is j_is) in
          ap (λ x. ends.taken x ++ ends.known x) q'.2 ∙ looked a.station b.station p'.0 q'.0 a.at b.at p'.1 q'.1 ∙ ap ends.pushed (sym p'.2)

      by_ring : (i ≡ from) ⊎ (i ≢ from) → (j ≡ to) ⊎ (j ≢ to) → ends.taken q.rx ++ ends.known q.rx ≡ ends.pushed p.tx
      by_ring (inl i_is) (inl j_is) = looked_here i j u v p q i_is j_is at_u at_v at_p at_q
      by_ring (inl i_is) (inr far) = elsewhere (λ a b. far b)
      by_ring (inr far) j_is = elsewhere (λ a b. far a)

-- the ring of a station to itself was looked at
module _ (ss us : List Station) (here : ℕ) (s u : Station) (at_s : slice_get ss here ≡ Some s) (is : us ≡ slice_set ss here u) (k : LooksAtItself s here u) where
  own_looks : Looks s u
  own_looks = record {
    node = k.node;
    peers = subst (Each PeerLooks s.peers.items) (sym k.sets) (each_set PeerLooks looks_self s.peers.items here k.now (λ p at. subst (λ (x : Peer). PeerLooks x k.now) (same_Some k.old p (sym k.at ∙ at)) k.looks));
  }

  own_station : (x : Station) → Looks x x
  own_station x = record { node = refl; peers = each_self PeerLooks looks_self x.peers.items }

  pub all_look_itself : Each Looks ss us
  all_look_itself =
      subst (Each Looks ss) (sym is) (each_set Looks own_station ss here u (λ x at. subst (λ (y : Station). Looks y u) (same_Some s x (sym at_s ∙ at)) own_looks))

  inside : here < length ss
  inside = slice_get_within ss here s at_s

  set_here : slice_get us here ≡ Some u
  set_here = ap (λ (xs : List Station). slice_get xs here) is ∙ got_here ss here u inside

  set_other : (i : ℕ) (x : Station) → i ≢ here → slice_get us i ≡ Some x → slice_get ss i ≡ Some x
  set_other i x far at =
      sym (got_other ss here i u far) ∙ ap (λ (xs : List Station). slice_get xs i) (sym is) ∙ at

  peer_here : slice_get u.peers.items here ≡ Some k.now
  peer_here =
      ap (λ (ps : List Peer). slice_get ps here) k.sets ∙ got_here s.peers.items here k.now (slice_get_within s.peers.items here k.old k.at)

  peer_other : (j : ℕ) (p : Peer) → j ≢ here → slice_get u.peers.items j ≡ Some p → slice_get s.peers.items j ≡ Some p
  peer_other j p far at =
      sym (got_other s.peers.items here j k.now far) ∙ ap (λ (ps : List Peer). slice_get ps j) (sym k.sets) ∙ at

  pub is_looked_itself : IsLooked us here here
  is_looked_itself x y p q at_x at_y at_p at_q =
      let is_x : u ≡ x = same_Some u x (sym set_here ∙ at_x) in
      let is_y : u ≡ y = same_Some u y (sym set_here ∙ at_y) in
      let is_p : k.now ≡ p = same_Some k.now p (sym peer_here ∙ ap (λ (z : Station). slice_get z.peers.items here) is_x ∙ at_p) in
      let is_q : k.now ≡ q = same_Some k.now q (sym peer_here ∙ ap (λ (z : Station). slice_get z.peers.items here) is_y ∙ at_q) in
      ap (λ (z : Peer). ends.taken z.rx ++ ends.known z.rx) (sym is_q) ∙ k.looked ∙ ap (λ (z : Peer). ends.pushed z.tx) is_p

  -- a station as it was, with its ends but for the one to itself
  record WasAt (i : ℕ) (x : Station) : Type 0 where
    station : Station
    at : slice_get ss i ≡ Some station
    peer : (j : ℕ) (p : Peer) → ((i ≡ here) → (j ≡ here) → ⊥) → slice_get x.peers.items j ≡ Some p → slice_get station.peers.items j ≡ Some p

  was_at : (i : ℕ) (x : Station) → slice_get us i ≡ Some x → WasAt i x
  was_at i x at = by_place (is_eq i here)
    where
      by_place : (i ≡ here) ⊎ (i ≢ here) → WasAt i x
      by_place (inl same) =
          let is_x : u ≡ x = same_Some u x (sym set_here ∙ ap (slice_get us) (sym same) ∙ at) in
          record {
            station = s;
            at = ap (slice_get ss) same ∙ at_s;
            peer = λ j p never at_p. peer_other j p (never same) (ap (λ (z : Station). slice_get z.peers.items j) is_x ∙ at_p);
          }
      by_place (inr far) = record { station = x; at = set_other i x far at; peer = λ j p never at_p. at_p }

  pub stays_looked_itself : (i j : ℕ) → IsLooked ss i j → IsLooked us i j
  stays_looked_itself i j looked x y p q at_x at_y at_p at_q = by_ring (is_eq i here) (is_eq j here)
    where
      elsewhere : ((i ≡ here) → (j ≡ here) → ⊥) → ends.taken q.rx ++ ends.known q.rx ≡ ends.pushed p.tx
      elsewhere never =
          let a = was_at i x at_x in
          let b = was_at j y at_y in
          looked a.station b.station p q a.at b.at (a.peer j p never at_p) (b.peer i q (λ j_is i_is. never i_is j_is) at_q)

      by_ring : (i ≡ here) ⊎ (i ≢ here) → (j ≡ here) ⊎ (j ≢ here) → ends.taken q.rx ++ ends.known q.rx ≡ ends.pushed p.tx
      by_ring (inl i_is) (inl j_is) =
          is_looked_itself x y p q (ap (slice_get us) (sym i_is) ∙ at_x) (ap (slice_get us) (sym j_is) ∙ at_y) (ap (slice_get x.peers.items) (sym j_is) ∙ at_p) (ap (slice_get y.peers.items) (sym i_is) ∙ at_q)
      by_ring (inl i_is) (inr far) = elsewhere (λ a b. far b)
      by_ring (inr far) j_is = elsewhere (λ a b. far a)

-- the element that was found at a place
pub found : {X : Type 0} (xs : List X) (i : ℕ) (x y : X) → slice_get xs i ≡ Some y → x ≡ slice_index_or xs i x → slice_get xs i ≡ Some x
found xs i x y at here = at ∙ ap Some (sym (here ∙ get_or_from_slice_get xs i y x at))

-- two parts of a list
at_front : {X : Type 0} (xs ys : List X) (i : ℕ) (x : X) → slice_get xs i ≡ Some x → slice_get (xs ++ ys) i ≡ Some x
at_front [] ys i x at = absurd (cc)
at_front (y ∷ xs) ys zero x at = at
at_front (y ∷ xs) ys (suc i) x at = at_front xs ys i x at

at_back : {X : Type 0} (xs ys : List X) (i : ℕ) (x : X) → slice_get ys i ≡ Some x → slice_get (xs ++ ys) (length xs + i) ≡ Some x
at_back [] ys i x at =
    let same : i ≡ 0 + i = omega arith in subst (λ (n : ℕ). slice_get ys n ≡ Some x) same at
at_back (y ∷ xs) ys i x at =
    let same : suc (length xs + i) ≡ length (y ∷ xs) + i = omega arith in
    subst (λ (n : ℕ). slice_get (y ∷ xs ++ ys) n ≡ Some x) same (at_back xs ys i x at)

pub at_left : {X : Type 0} (xs left right : List X) (m : ℕ) (d : X) → xs ≡ left ++ right → m < length left → slice_get xs m ≡ Some (slice_index_or left m d)
at_left xs left right m d is inside =
    let there = at_place left m inside in
    ap (λ zs. slice_get zs m) is ∙ at_front left right m there.0 there.1 ∙ ap Some (sym (get_or_from_slice_get left m there.0 d there.1))

pub at_right : {X : Type 0} (xs left right : List X) (n : ℕ) (d : X) → xs ≡ left ++ right → length left ≡ n → n < length xs → slice_get xs n ≡ Some (slice_index_or right 0 d)
at_right xs left right n d is long inside =
    let whole = ap length is ∙ length-append left right in
    let there = at_place right 0 (omega (arith, inside, whole, long)) in
    let same : n ≡ length left + 0 = omega (arith, long) in
    ap (λ zs. slice_get zs n) is ∙ ap (slice_get (left ++ right)) same ∙ at_back left right 0 there.0 there.1 ∙ ap Some (sym (get_or_from_slice_get right 0 there.0 d there.1))

-- two stations have each other
pub ends_meet : (ss : List Station) (from to : ℕ) (s t : Station) → AreMeshed ss → slice_get ss from ≡ Some s → slice_get ss to ≡ Some t → EndsMeet s t from to
ends_meet ss from to s t meshed at_s at_t =
    let p = at_place s.peers.items to (let h = slice_get_within ss to t at_t in let l = meshed.full from s at_s in omega (arith, h, l)) in
    let q = at_place t.peers.items from (let h = slice_get_within ss from s at_s in let l = meshed.full to t at_t in omega (arith, h, l)) in
    record { tx_end = p.0; rx_end = q.0; tx_at = p.1; rx_at = q.1; meet = meshed.joined from to s t p.0 q.0 at_s at_t p.1 q.1 }

-- an element that was there is at its place
pub at_or : {X : Type 0} (xs : List X) (i : ℕ) (d : X) → i < length xs → slice_get xs i ≡ Some (slice_index_or xs i d)
at_or xs i d inside =
    let there = at_place xs i inside in there.1 ∙ ap Some (sym (get_or_from_slice_get xs i there.0 d there.1))

pub sets_forth : {X : Type 0} (xs left right : List X) (m n : ℕ) (x y : X) → xs ≡ left ++ right → length left ≡ n → m < n → slice_set left m x ++ slice_set right 0 y ≡ slice_set (slice_set xs m x) n y
sets_forth xs left right m n x y is long low =
    sym (ap (λ zs. slice_set (slice_set zs m x) n y) is
    ∙ ap (λ zs. slice_set zs n y) (set-append_left left right m x (omega (arith, long, low)))
    ∙ set-append_right (slice_set left m x) right n n y (length_set left m x ∙ long) (omega arith)
    ∙ (let none : n - n ≡ 0 = omega arith in ap (λ k. slice_set left m x ++ slice_set right k y) none))

pub sets_back : {X : Type 0} (xs left right : List X) (m n : ℕ) (x y : X) → xs ≡ left ++ right → length left ≡ n → m < n → slice_set left m x ++ slice_set right 0 y ≡ slice_set (slice_set xs n y) m x
sets_back xs left right m n x y is long low =
    sym (ap (λ zs. slice_set (slice_set zs n y) m x) is
    ∙ ap (λ zs. slice_set zs m x) (set-append_right left right n n y long (omega arith) ∙ (let none : n - n ≡ 0 = omega arith in ap (λ k. left ++ slice_set right k y) none))
    ∙ set-append_left left (slice_set right 0 y) m x (omega (arith, long, low)))

-- one ring more
pub looked_next : (ss us : List Station) (from k : ℕ) → ((j : ℕ) → j < k → IsLooked ss from j) → IsLooked us from k → ((i j : ℕ) → IsLooked ss i j → IsLooked us i j) → (j : ℕ) → j < k + 1 → IsLooked us from j
looked_next ss us from k was here kept j low =
    elim (below_or j k low) [ inl before ↦ kept from j (was j before) | inr same ↦ subst (IsLooked us from) (sym same) here ]

-- the rings from one station more
pub all_looked_next : (ss us : List Station) (k : ℕ) → ((i j : ℕ) → i < k → IsLooked ss i j) → ((j : ℕ) → IsLooked us k j) → ((i j : ℕ) → IsLooked ss i j → IsLooked us i j) → (i j : ℕ) → i < k + 1 → IsLooked us i j
all_looked_next ss us k was here kept i j low =
    elim (below_or i k low) [ inl before ↦ kept i j (was i j before) | inr same ↦ subst (λ (n : ℕ). IsLooked us n j) (sym same) (here j) ]

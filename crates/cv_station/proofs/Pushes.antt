-- Frames that are pushed.
use Rattle.std.proofs.Common.{◌≡◌, ◌≢◌, ◌==◌, ℕ, zero, suc, ◌<◌, ◌+◌, Bool, true, false, if◌then◌else◌, slice_index_or, ◌⊎◌, inl, inr, List, [], ◌∷◌, ◌++◌, length, slice_get, Option, Some, None, Contains, Result, Ok, Err, OnOk, IfErr, refl, ap, sym, ◌∙◌, subst, arith}
use Rattle.std.specs.Prelude.{slice_set, IsSomeAnd}
use Rattle.std.proofs.lemmas.Bool.Decides.{nat_tests}
use Rattle.std.proofs.lemmas.List.{append-nil}
use Rattle.std.proofs.lemmas.List.Elements.{Contains-append_cases, Contains-append_left, Contains-append_right}
use Rattle.std.proofs.lemmas.Option.{slice_get-get_or}
use Rattle.cv_protocol.specs.declared.frame.Frame.{Frame}
use Rattle.cv_link.specs.declared.plan.Taken.{Taken}
use Rattle.cv_link.specs.declared.ring.Rx.{Rx}
use Rattle.cv_link.specs.declared.ring.Tx.{Tx}
use Rattle.cv_link.specs.Plan.{counted, frame_of, Tells}
use Rattle.cv_link.specs.Ring as ends
use Rattle.cv_link.proofs.Ends.{rx_self, tx_self}
use Rattle.cv_station.specs.declared.station.Peer.{Peer}
use Rattle.cv_station.specs.Acts.{PeerWorks}
use Rattle.cv_station.specs.Going.{Pushes, Takes, TakesOne, only_at}
use Rattle.cv_station.proofs.Runs.{each_changed, each_self, each_then, peer_kept, peer_more, peer_then}

-- whatever was sent, nothing may have been pushed
pub pushes_none : (frames : List Frame) (peers : List Peer) → Pushes frames peers peers
pushes_none frames peers = each_self (λ j p q. PeerWorks frames [] [] p q) peers (λ j p. peer_kept frames p)

-- the peer at one place was pushed to
pub pushes_at : (frames : List Frame) (peers : List Peer) (i : ℕ) (x y : Peer) → slice_get peers i ≡ Some x → PeerWorks frames [] [] x y → Pushes frames peers (slice_set peers i y)
pushes_at frames peers i x y here is =
    each_changed (λ j p q. PeerWorks frames [] [] p q) peers i x y here is (λ j p other. peer_kept frames p)

only_one : (f frame : Frame) (k : ℕ) → k < length (frame ∷ []) → slice_index_or (frame ∷ []) k f ≡ f → f ≡ frame
only_one f frame zero h e = sym e
only_one f frame (suc k) h e = absurd (omega (arith, h))

one_of : (all : List Frame) (frame : Frame) → Contains all frame → (f : Frame) → Contains (all ++ frame ∷ []) f → Contains all f
one_of all frame there f h =
    elim (Contains-append_cases all (frame ∷ []) f h) [
      | inl c ↦ c
      | inr c ↦ subst (λ (g : Frame). Contains all g) (sym (only_one f frame c.0 c.1 c.2)) there
    ]

-- and one more of them
pub pushes_more : (all : List Frame) (frame : Frame) (xs ys zs : List Peer) → Contains all frame → Pushes all xs ys → Pushes (frame ∷ []) ys zs → Pushes all xs zs
pushes_more all frame xs ys zs there first second =
    each_then (λ j p q. PeerWorks all [] [] p q) (λ j p q. PeerWorks (frame ∷ []) [] [] p q) (λ j p q. PeerWorks all [] [] p q) xs ys zs (λ j p q r one two. peer_more (all ++ frame ∷ []) all [] [] p r (one_of all frame there) (peer_then all (frame ∷ []) [] [] [] [] p q r one two)) first second

-- the frame was pushed behind the others, or handed back
pushed_one : (x : Peer) (tx : Tx) (frame : Frame) → ends.pushed tx ≡ ends.pushed x.tx ++ frame ∷ [] → frame.to ≡ x.no → (f : Frame) → Contains (ends.pushed tx) f → Contains (ends.pushed x.tx) f ⊎ (Contains (frame ∷ []) f × (f.to ≡ x.no))
pushed_one x tx frame is to f h =
    elim (Contains-append_cases (ends.pushed x.tx) (frame ∷ []) f (subst (λ (fs : List Frame). Contains fs f) is h)) [
      | inl c ↦ inl c
      | inr c ↦ inr (c, ap (λ (g : Frame). g.to) (only_one f frame c.0 c.1 c.2) ∙ to)
    ]

pub works_pushed : (x : Peer) (tx : Tx) (frame : Frame) → ends.SameTx x.tx tx → ends.pushed tx ≡ ends.pushed x.tx ++ frame ∷ [] → frame.to ≡ x.no → PeerWorks (frame ∷ []) [] [] x (record x { tx = tx })
works_pushed x tx frame same is to = record {
  number = refl;
  tx = same;
  rx = rx_self x.rx;
  pushed = pushed_one x tx frame is to;
  taken = sym (append-nil (ends.taken x.rx));
  plan = refl;
}

pub works_refused : (x : Peer) (tx : Tx) (frame : Frame) → ends.SameTx x.tx tx → ends.pushed tx ≡ ends.pushed x.tx → PeerWorks (frame ∷ []) [] [] x (record x { tx = tx })
works_refused x tx frame same is = record {
  number = refl;
  tx = same;
  rx = rx_self x.rx;
  pushed = λ f h. inl (subst (λ (fs : List Frame). Contains fs f) is h);
  taken = sym (append-nil (ends.taken x.rx));
  plan = refl;
}

-- it was pushed or handed back
pub works_told : (x : Peer) (tx : Tx) (frame : Frame) (r : Result (Unit {0}) Frame) → ends.SameTx x.tx tx → OnOk r (ends.pushed tx ≡ ends.pushed x.tx ++ frame ∷ []) → IfErr r (λ back. (back ≡ frame) × (ends.pushed tx ≡ ends.pushed x.tx) × (length (ends.pushed tx) ≡ ends.known_taken tx + 64)) → frame.to ≡ x.no → PeerWorks (frame ∷ []) [] [] x (record x { tx = tx })
works_told x tx frame (Ok u) same ok err to = works_pushed x tx frame same ok to
works_told x tx frame (Err back) same ok err to = works_refused x tx frame same err.1

-- the peer that was found has the number
pub number_at : (peers : List Peer) (place : ℕ) (x : Peer) (number : ℕ) → place < length peers → IsSomeAnd (slice_get peers place) (λ (p : Peer). p.no ≡ number) → number ≡ (slice_index_or peers place x).no
number_at peers place x number within is =
    sym (subst (λ (o : Option Peer). IsSomeAnd o (λ (p : Peer). p.no ≡ number)) (slice_get-get_or peers place x within) is)

pub pushes_found : (frame : Frame) (peers : List Peer) (place : ℕ) (x y : Peer) → place < length peers → PeerWorks (frame ∷ []) [] [] (slice_index_or peers place x) y → Pushes (frame ∷ []) peers (slice_set peers place y)
pushes_found frame peers place x y within is =
    pushes_at (frame ∷ []) peers place (slice_index_or peers place x) y (slice_get-get_or peers place x within) is

-- the last frame of a list is one of all, and so are those before it
pub last_of : (all old new : List Frame) (last : Frame) → old ≡ new ++ last ∷ [] → ((f : Frame) → Contains old f → Contains all f) → Contains all last
last_of all old new last is some =
    some last (subst (λ (fs : List Frame). Contains fs last) (sym is) (Contains-append_right new (last ∷ []) last (zero, omega arith, refl)))

pub front_of : (all old new : List Frame) (last : Frame) → old ≡ new ++ last ∷ [] → ((f : Frame) → Contains old f → Contains all f) → (f : Frame) → Contains new f → Contains all f
front_of all old new last is some f h =
    some f (subst (λ (fs : List Frame). Contains fs f) (sym is) (Contains-append_left new (last ∷ []) f h))

-- 2. Frames that are taken

-- None: nothing was taken, and no frame was counted
pub takes_still : (x : Peer) (rx : Rx) → ends.SameRx x.rx rx → ends.IsStill x.rx rx → PeerWorks [] [] [] x (record x { rx = rx })
takes_still x rx same still = record {
  number = refl;
  tx = tx_self x.tx;
  rx = same;
  pushed = λ f h. inl h;
  taken = still.taken ∙ sym (append-nil (ends.taken x.rx));
  plan = still.plan;
}

pub takes_told : (x : Peer) (rx : Rx) (told : Taken) → ends.SameRx x.rx rx → ends.taken rx ≡ ends.taken x.rx ++ frame_of told ∷ [] → Tells (ends.plan x.rx) (frame_of told) told → ends.plan rx ≡ counted (ends.plan x.rx) → PeerWorks [] (frame_of told ∷ []) (told ∷ []) x (record x { rx = rx })
takes_told x rx told same popped tells counts = record {
  number = refl;
  tx = tx_self x.tx;
  rx = same;
  pushed = λ f h. inl h;
  taken = popped;
  plan = (tells, counts);
}

-- at the place of the peer the frame and what was told of it, elsewhere nothing
here_only : {X : Type 0} (i : ℕ) (x : X) → only_at i i x ≡ x ∷ []
here_only i x =
    let same : (i == i) ≡ true = grind (arith, nat_tests) in
    ap (λ (b : Bool). if b then x ∷ [] else []) same

elsewhere : {X : Type 0} (i j : ℕ) (x : X) → j ≢ i → only_at i j x ≡ []
elsewhere i j x other =
    let not_same : (i == j) ≡ false = grind (arith, nat_tests, other) in
    ap (λ (b : Bool). if b then x ∷ [] else []) not_same

pub takes_at : (place : ℕ) (told : Option Taken) (peers : List Peer) (x y : Peer) → slice_get peers place ≡ Some x → TakesOne told x y → Takes place told peers (slice_set peers place y)
takes_at place None peers x y here is = pushes_at [] peers place x y here is
takes_at place (Some told) peers x y here is =
    each_changed (λ j p q. PeerWorks [] (only_at place j (frame_of told)) (only_at place j told) p q) peers place x y here
    (subst (λ (fs : List Frame). PeerWorks [] fs (only_at place place told) x y) (sym (here_only place (frame_of told))) (subst (λ (ts : List Taken). PeerWorks [] (frame_of told ∷ []) ts x y) (sym (here_only place told)) is))
    (λ j p other. subst (λ (fs : List Frame). PeerWorks [] fs (only_at place j told) p p) (sym (elsewhere place j (frame_of told) other)) (subst (λ (ts : List Taken). PeerWorks [] [] ts p p) (sym (elsewhere place j told other)) (peer_kept [] p)))

pub takes_found : (place : ℕ) (told : Option Taken) (peers : List Peer) (x y : Peer) → place < length peers → TakesOne told (slice_index_or peers place x) y → Takes place told peers (slice_set peers place y)
takes_found place told peers x y within is =
    takes_at place told peers (slice_index_or peers place x) y (slice_get-get_or peers place x within) is

-- Ports that are rewound, one reader after another, and actors that are settled.
use Rattle.std.proofs.Common.{◌≡◌, ℕ, zero, suc, ◌+◌, ◌-◌, Bool, true, false, not, max, List, [], ◌∷◌, ◌++◌, length, map, take, drop, slice_get, slice_set, Option, Some, None, refl, ap, sym, ◌∙◌, subst, arith}
use Rattle.std.specs.Prelude.{IsSomeAnd}
use Rattle.std.proofs.lemmas.List.{length-set}
use Rattle.cv_token.specs.declared.identifiers.ActorId.{ActorId}
use Rattle.cv_table.specs.Order.{same_actor}
use Rattle.cv_queue.specs.declared.reader.Reader.{Reader}
use Rattle.cv_queue.specs.Ports.{OutView, after_rewind, rewound as rewound_at}
use Rattle.cv_protocol.specs.declared.state.Hint.{Hint}
use Rattle.cv_protocol.specs.Actors.{Actor, LiveState}
use Rattle.cv_protocol.specs.NodeState.{rewound_for}
use Rattle.cv_actor.specs.Returning.{IsRewoundAt}
use Rattle.cv_actor.proofs.Found.{put_back}
use Rattle.cv_protocol.specs.Travel.{capture, restore, rewound, rewound_out, rewound_reader, settled}

-- 1. One reader

-- one more element is changed
pub changed_next : {X : Type 0} (f : X → X) (k : ℕ) (xs : List X) (x y : X) → slice_get xs k ≡ Some x → y ≡ f x → take (k + 1) (slice_set xs k y) ++ map f (drop (k + 1) (slice_set xs k y)) ≡ take k xs ++ map f (drop k xs)
changed_next f k [] x y is new = absurd (cc)
changed_next f zero (z ∷ xs) x y is new =
    let same : z ≡ x = cc in
    ap (λ w. w ∷ map f xs) (new ∙ ap f (sym same))
changed_next f (suc k) (z ∷ xs) x y is new =
    let next : suc k + 1 ≡ suc (k + 1) = omega arith in
    ap (λ (n : ℕ). take n (z ∷ slice_set xs k y) ++ map f (drop n (z ∷ slice_set xs k y))) next ∙ ap (λ ws. z ∷ ws) (changed_next f k xs x y is new)

-- the readers of a port after one was rewound
pub readers_rewound : (o : OutView) (k : ℕ) (r : Reader) → slice_get o.readers k ≡ Some r → after_rewind o k ≡ record o { readers = slice_set o.readers k (rewound_reader r) }
readers_rewound o k r is = ap (rewound_at o k) is

-- a reader at that actor is rewound, and another stays
pub reader_at : (a : ActorId) (r : Reader) → same_actor r.consumer a ≡ true → rewound_reader r ≡ rewound_for a r
reader_at a r is = rw is refl

pub reader_elsewhere : (a : ActorId) (r : Reader) → same_actor r.consumer a ≡ false → r ≡ rewound_for a r
reader_elsewhere a r is = rw is refl

-- 2. One reader after another

module _ (first o next : OutView) (rs : List Reader) (is : next ≡ record o { readers = rs }) where
  pub rest_next : o ≡ record first { readers = o.readers } → next ≡ record first { readers = next.readers }
  rest_next rest =
      is ∙ ap (λ (p : OutView). record p { readers = rs }) rest ∙ ap (λ ws. record first { readers = ws }) (sym (ap (λ (p : OutView). p.readers) is))

pub many_next : (o next : OutView) (n count : ℕ) (y : Reader) → next ≡ record o { readers = slice_set o.readers n y } → length o.readers ≡ count → length next.readers ≡ count
many_next o next n count y is many = ap (λ (p : OutView). length p.readers) is ∙ length-set o.readers n y ∙ many

pub whole_next : (f : Reader → Reader) (first o next : OutView) (n : ℕ) (r y : Reader) → next ≡ record o { readers = slice_set o.readers n y } → slice_get o.readers n ≡ Some r → y ≡ f r → take n o.readers ++ map f (drop n o.readers) ≡ map f first.readers → take (n + 1) next.readers ++ map f (drop (n + 1) next.readers) ≡ map f first.readers
whole_next f first o next n r y is there new whole =
    ap (λ (p : OutView). take (n + 1) p.readers ++ map f (drop (n + 1) p.readers)) is ∙ changed_next f n o.readers r y there new ∙ whole

-- 3. Actors

-- what is rewound stays so
rewound_twice : (rs : List Reader) → map rewound_reader (map rewound_reader rs) ≡ map rewound_reader rs
rewound_twice [] = refl
rewound_twice (r ∷ rs) = ap (λ ws. rewound_reader r ∷ ws) (rewound_twice rs)

outs_twice : (outs : List OutView) → map rewound_out (map rewound_out outs) ≡ map rewound_out outs
outs_twice [] = refl
outs_twice (o ∷ outs) =
    ap (λ rs. record o { readers = rs } ∷ map rewound_out (map rewound_out outs)) (rewound_twice o.readers)
    ∙ ap (λ ws. rewound_out o ∷ ws) (outs_twice outs)

settled_stays : (a : Actor) → rewound (settled a) ≡ settled a
settled_stays a = ap (λ outs. record (settled a) { outs = outs }) (outs_twice a.outs)

pub comes_back : (l : LiveState) (hints : List Hint) (now attempt : ℕ) → restore (capture l hints now) attempt now ≡ record { actor = settled l.actor; due = max l.due now; attempt = attempt }
comes_back l hints now attempt =
    let due : now + (l.due - now) ≡ max l.due now = omega arith in
    ap (λ actor. record { actor = actor; due = now + (l.due - now); attempt = attempt }) (settled_stays l.actor)
    ∙ ap (λ (n : ℕ). record { actor = settled l.actor; due = n; attempt = attempt }) due

-- 4. A reader at another actor

not_true : (b : Bool) → true ≡ not b → b ≡ false
not_true true e = absurd (cc)
not_true false e = refl

pub elsewhere : (o : OutView) (n : ℕ) (a : ActorId) (r : Reader) → Some r ≡ slice_get o.readers n → true ≡ not (same_actor r.consumer a) → IsSomeAnd (slice_get o.readers n) (IsRewoundAt o n a o)
elsewhere o n a r there ne =
    let same = reader_elsewhere a r (not_true _ ne) in
    let back = put_back o.readers n (rewound_for a r) (sym there ∙ ap Some same) in
    subst (λ (x : Option Reader). IsSomeAnd x (IsRewoundAt o n a o)) there (ap (λ rs. record o { readers = rs }) (sym back))

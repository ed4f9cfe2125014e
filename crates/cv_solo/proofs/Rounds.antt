-- What a round has fired, from turn to turn.
use Rattle.std.proofs.Common.{◌≡◌, ◌<◌, ◌≤◌, ◌+◌, ◌-◌, min, true, false, is_some, MatchOption, ℕ, suc, List, [], ◌∷◌, ◌++◌, length, take, Option, Some, None, option_and_then, option_map, option_to_list, unwrap_or, refl, sym, ap, ◌∙◌, subst, arith, append_assoc, length-append}
use Rattle.std.proofs.lemmas.List.{append-nil, take-append-le}
use Rattle.std.proofs.Math.Seq.{take-length}
use Rattle.cv_kinds.specs.Net.{Net}
use Rattle.cv_solo.specs.Machine.{Machine}
use Rattle.cv_solo.specs.OneRuntime.{Runtime, fire, solo_from}
use Rattle.cv_solo.specs.PlainNetwork.{Begins, first_ready, firings_in, round_firings}

pub record SoFar (net : Net) (start now : Runtime) (fired most actor : ℕ) : Type 0 where
  pub done : List (ℕ × ℕ)
  pub all : round_firings net start ≡ done ++ firings_in net now actor (length net.actors - actor)
  pub count : length done ≡ fired
  pub replays : solo_from net start done ≡ Some now
  pub few : fired ≤ most

pub at_first : (net : Net) (start : Runtime) (most : ℕ) → SoFar net start start 0 most 0
at_first net start most = record {
  done = [];
  all = let whole : length net.actors ≡ length net.actors - 0 = omega arith in ap (λ (n : ℕ). firings_in net start 0 n) whole;
  count = refl;
  replays = refl;
  few = omega arith;
}

more_of : (net : Net) (es more : List (ℕ × ℕ)) (now next : Runtime) (o : Option Runtime) → ((x : Runtime) → solo_from net x es ≡ Some now → solo_from net x more ≡ Some next) → option_and_then (λ (x : Runtime). solo_from net x es) o ≡ Some now → option_and_then (λ (x : Runtime). solo_from net x more) o ≡ Some next
more_of net es more now next None below h = cc
more_of net es more now next (Some x) below h = below x h

-- one firing more
solo_more : (net : Net) (start now next : Runtime) (es : List (ℕ × ℕ)) (f : ℕ × ℕ) → solo_from net start es ≡ Some now → fire net now f.0 f.1 ≡ Some next → solo_from net start (es ++ f ∷ []) ≡ Some next
solo_more net start now next [] f is fires =
    let same : start ≡ now = cc in
    subst (λ (r : Runtime). solo_from net r (f ∷ []) ≡ Some next) (sym same) (ap (option_and_then (λ (x : Runtime). Some x)) fires)
solo_more net start now next (e ∷ es) f is fires = more_of net es (es ++ f ∷ []) now next (fire net start e.0 e.1) (λ x h. solo_more net x now next es f h fires) is

-- a turn in which nothing fires
pub stays : (net : Net) (start now : Runtime) (fired most actor : ℕ) → actor < length net.actors → SoFar net start now fired most actor → first_ready net now actor ≡ None → SoFar net start now fired most (actor + 1)
stays net start now fired most actor within before none =
    let left : length net.actors - actor ≡ suc (length net.actors - (actor + 1)) = omega arith in
    let after : suc actor ≡ actor + 1 = omega arith in
    let rest : ℕ = length net.actors - (actor + 1) in
    record {
      done = before.done;
      all =
          before.all
          ∙ ap (λ (n : ℕ). before.done ++ firings_in net now actor n) left
          ∙ ap (λ (o : Option ℕ). before.done ++ (option_to_list (option_map (λ action. (actor, action)) o) ++ firings_in net (unwrap_or (option_and_then (λ action. fire net now actor action) o) now) (suc actor) rest)) none
          ∙ ap (λ (a : ℕ). before.done ++ firings_in net now a rest) after;
      count = before.count;
      replays = before.replays;
      few = before.few;
    }

-- a turn in which an action fires
pub goes_on : (net : Net) (start now next : Runtime) (fired most actor action : ℕ) → actor < length net.actors → fired < most → SoFar net start now fired most actor → first_ready net now actor ≡ Some action → fire net now actor action ≡ Some next → SoFar net start next (fired + 1) most (actor + 1)
goes_on net start now next fired most actor action within fewer before first fires =
    let left : length net.actors - actor ≡ suc (length net.actors - (actor + 1)) = omega arith in
    let after : suc actor ≡ actor + 1 = omega arith in
    let rest : ℕ = length net.actors - (actor + 1) in
    record {
      done = before.done ++ (actor, action) ∷ [];
      all =
          before.all
          ∙ ap (λ (n : ℕ). before.done ++ firings_in net now actor n) left
          ∙ ap (λ (o : Option ℕ). before.done ++ (option_to_list (option_map (λ (k : ℕ). (actor, k)) o) ++ firings_in net (unwrap_or (option_and_then (λ (k : ℕ). fire net now actor k) o) now) (suc actor) rest)) first
          ∙ ap (λ (o : Option Runtime). before.done ++ ((actor, action) ∷ [] ++ firings_in net (unwrap_or o now) (suc actor) rest)) fires
          ∙ ap (λ (a : ℕ). before.done ++ ((actor, action) ∷ [] ++ firings_in net next a rest)) after
          ∙ sym (append_assoc before.done ((actor, action) ∷ []) (firings_in net next (actor + 1) rest));
      count = omega (arith, length-append before.done ((actor, action) ∷ []), before.count);
      replays = solo_more net start now next before.done (actor, action) before.replays fires;
      few = omega (arith, fewer);
    }

-- what was fired so far are the first firings of the round
pub begins : (net : Net) (start now : Runtime) (fired most actor : ℕ) → SoFar net start now fired most actor → Begins net start fired now
begins net start now fired most actor so_far =
    let rest : List (ℕ × ℕ) = firings_in net now actor (length net.actors - actor) in
    let enough : fired ≤ length so_far.done = omega (arith, so_far.count) in
    let front : take fired (so_far.done ++ rest) ≡ so_far.done = take-append-le fired so_far.done rest enough ∙ ap (λ (n : ℕ). take n so_far.done) (sym so_far.count) ∙ take-length so_far.done in
    record {
      few = omega (arith, length-append so_far.done rest, so_far.count, ap length so_far.all);
      fired = ap (λ (fs : List (ℕ × ℕ)). solo_from net start (take fired fs)) so_far.all ∙ ap (solo_from net start) front ∙ so_far.replays;
    }

-- as many as are allowed, or all
pub cut : (net : Net) (start now : Runtime) (fired most actor : ℕ) → SoFar net start now fired most actor → fired ≡ most → fired ≡ min most (length (round_firings net start))
cut net start now fired most actor so_far is =
    let h = begins net start now fired most actor so_far in
    omega (arith, h.few, is)

pub whole : (net : Net) (start now : Runtime) (fired most actor : ℕ) → SoFar net start now fired most actor → length net.actors ≤ actor → fired ≡ min most (length (round_firings net start))
whole net start now fired most actor so_far past =
    let none : length net.actors - actor ≡ 0 = omega arith in
    let same : length (round_firings net start) ≡ fired = ap length so_far.all ∙ ap (λ (n : ℕ). length (so_far.done ++ firings_in net now actor n)) none ∙ ap length (append-nil so_far.done) ∙ so_far.count in
    omega (arith, same, so_far.few)

-- the turn of one actor, in which it fires
pub turn_some : (net : Net) (start : Runtime) (old new : Machine) (done : Option ℕ) (fired next most actor : ℕ) → old.net ≡ net → actor < length net.actors → fired < most → SoFar net start old.runtime fired most actor → done ≡ first_ready old.net old.runtime actor → MatchOption done (new ≡ old) (λ action. fire old.net old.runtime actor action ≡ Some new.runtime) → is_some done ≡ true → next ≡ fired + 1 → SoFar net start new.runtime next most (actor + 1)
turn_some net start old new None fired next most actor same within fewer before first done some is = cc
turn_some net start old new (Some action) fired next most actor same within fewer before first done some is =
    let first_is : first_ready net old.runtime actor ≡ Some action = ap (λ (n : Net). first_ready n old.runtime actor) (sym same) ∙ sym first in
    let fires : fire net old.runtime actor action ≡ Some new.runtime = ap (λ (n : Net). fire n old.runtime actor action) (sym same) ∙ done in
    subst (λ (k : ℕ). SoFar net start new.runtime k most (actor + 1)) (sym is) (goes_on net start old.runtime new.runtime fired most actor action within fewer before first_is fires)

-- and one in which it does not
pub turn_none : (net : Net) (start : Runtime) (old new : Machine) (done : Option ℕ) (fired next most actor : ℕ) → old.net ≡ net → actor < length net.actors → SoFar net start old.runtime fired most actor → done ≡ first_ready old.net old.runtime actor → MatchOption done (new ≡ old) (λ action. fire old.net old.runtime actor action ≡ Some new.runtime) → is_some done ≡ false → next ≡ fired → SoFar net start new.runtime next most (actor + 1)
turn_none net start old new (Some action) fired next most actor same within before first done none is = cc
turn_none net start old new None fired next most actor same within before first done none is =
    let first_is : first_ready net old.runtime actor ≡ None = ap (λ (n : Net). first_ready n old.runtime actor) (sym same) ∙ sym first in
    let after : SoFar net start old.runtime fired most (actor + 1) = stays net start old.runtime fired most actor within before first_is in
    subst (λ (k : ℕ). SoFar net start new.runtime k most (actor + 1)) (sym is) (subst (λ (m : Machine). SoFar net start m.runtime fired most (actor + 1)) (sym done) after)

-- Rounds, and the firings of them.
use Rattle.std.proofs.Common.{◌≡◌, ◌<◌, ◌+◌, ◌-◌, min, ℕ, zero, suc, Bool, true, false, if◌then◌else◌, List, [], ◌∷◌, ◌++◌, length, take, slice_get, Option, Some, None, option_and_then, option_map, option_to_list, unwrap_or, refl, sym, ap, ◌∙◌, subst, arith, append_assoc, length-append, add-zero, zero-add}
use Rattle.std.proofs.lemmas.List.{append-nil, length-take-le, take_min}
use Rattle.std.proofs.Math.Seq.{take-length, take-append-add}
use Rattle.cv_token.specs.declared.token.Token.{Token}
use Rattle.cv_behave.specs.KindRow.{action_count}
use Rattle.cv_kinds.specs.declared.network.ActorSpec.{ActorSpec}
use Rattle.cv_kinds.specs.KindRow.{row_of}
use Rattle.cv_kinds.specs.Net.{Net}
use Rattle.cv_solo.specs.OneRuntime.{Runtime, fire, fired_if, opening, ready_of, slots_of, solo_from}
use Rattle.cv_solo.specs.PlainNetwork.{Begins, IsIdle, IsPlainRun, first_from, first_ready, firings_in, round, round_firings, rounds, rounds_firings, turn, turns}

-- ---- the first action that is ready fires

passes_case : (test : ℕ → Bool) (from k : ℕ) (rest : Option ℕ) (b : Bool) → test from ≡ b → (rest ≡ Some k → test k ≡ true) → (if b then Some from else rest) ≡ Some k → test k ≡ true
passes_case test from k rest true same below is = let e : from ≡ k = cc in subst (λ (x : ℕ). test x ≡ true) e same
passes_case test from k rest false same below is = below is

first_passes : (test : ℕ → Bool) (from count k : ℕ) → first_from test from count ≡ Some k → test k ≡ true
first_passes test from zero k is = cc
first_passes test from (suc count) k is = passes_case test from k (first_from test (suc from) count) (test from) refl (first_passes test (suc from) count k) is

ready_case : (net : Net) (r : Runtime) (actor : ℕ) (spec : ActorSpec) (action : ℕ) (slots : List Token) (b : Bool) → b ≡ true → (x : Runtime) × (fired_if net r actor spec action slots b ≡ Some x)
ready_case net r actor spec action slots true is = (_, refl)
ready_case net r actor spec action slots false is = cc

ready_fires : (net : Net) (r : Runtime) (actor action : ℕ) (o : Option ActorSpec) → option_and_then (λ spec. first_from (λ k. ready_of spec net.connections actor k (slots_of r actor) r.streams) 0 (action_count (row_of spec.kind))) o ≡ Some action
    → (x : Runtime) × (option_and_then (λ spec. fired_if net r actor spec action (slots_of r actor) (ready_of spec net.connections actor action (slots_of r actor) r.streams)) o ≡ Some x)
ready_fires net r actor action None is = cc
ready_fires net r actor action (Some spec) is =
    ready_case net r actor spec action (slots_of r actor) (ready_of spec net.connections actor action (slots_of r actor) r.streams)
    (first_passes (λ k. ready_of spec net.connections actor k (slots_of r actor) r.streams) 0 (action_count (row_of spec.kind)) action is)

fires_first : (net : Net) (r : Runtime) (actor action : ℕ) → first_ready net r actor ≡ Some action → (x : Runtime) × (fire net r actor action ≡ Some x)
fires_first net r actor action is = ready_fires net r actor action (slice_get net.actors actor) is

-- ---- the firings of turns lead where the turns lead

lead_case : (net : Net) (r after : Runtime) (from : ℕ) (rest : List (ℕ × ℕ)) (o : Option ℕ) → first_ready net r from ≡ o → solo_from net (turn net r from) rest ≡ Some after
    → solo_from net r (option_to_list (option_map (λ (action : ℕ). (from, action)) o) ++ rest) ≡ Some after
lead_case net r after from rest None same below =
    let stay : turn net r from ≡ r = ap (λ (o : Option ℕ). unwrap_or (option_and_then (λ (action : ℕ). fire net r from action) o) r) same in
    subst (λ (x : Runtime). solo_from net x rest ≡ Some after) stay below
lead_case net r after from rest (Some action) same below =
    let fires = fires_first net r from action same in
    let next : turn net r from ≡ fires.0 = ap (λ (o : Option ℕ). unwrap_or (option_and_then (λ (a : ℕ). fire net r from a) o) r) same ∙ ap (λ (o : Option Runtime). unwrap_or o r) fires.1 in
    ap (option_and_then (λ (x : Runtime). solo_from net x rest)) fires.1 ∙ subst (λ (x : Runtime). solo_from net x rest ≡ Some after) next below

turns_lead : (net : Net) (r : Runtime) (from count : ℕ) → solo_from net r (firings_in net r from count) ≡ Some (turns net r from count)
turns_lead net r from zero = refl
turns_lead net r from (suc count) = lead_case net r (turns net (turn net r from) (suc from) count) from (firings_in net (turn net r from) (suc from) count) (first_ready net r from) refl (turns_lead net (turn net r from) (suc from) count)

pub round_leads : (net : Net) (r : Runtime) → solo_from net r (round_firings net r) ≡ Some (round net r)
round_leads net r = turns_lead net r 0 (length net.actors)

append_case : (net : Net) (es fs : List (ℕ × ℕ)) (mid after : Runtime) (o : Option Runtime) → ((x : Runtime) → solo_from net x es ≡ Some mid → solo_from net x (es ++ fs) ≡ Some after) → option_and_then (λ (x : Runtime). solo_from net x es) o ≡ Some mid → option_and_then (λ (x : Runtime). solo_from net x (es ++ fs)) o ≡ Some after
append_case net es fs mid after None below is = cc
append_case net es fs mid after (Some x) below is = below x is

-- firings behind firings
pub solo_append : (net : Net) (r mid after : Runtime) (es fs : List (ℕ × ℕ)) → solo_from net r es ≡ Some mid → solo_from net mid fs ≡ Some after → solo_from net r (es ++ fs) ≡ Some after
solo_append net r mid after [] fs first second = let same : r ≡ mid = cc in subst (λ (x : Runtime). solo_from net x fs ≡ Some after) (sym same) second
solo_append net r mid after (e ∷ es) fs first second = append_case net es fs mid after (fire net r e.0 e.1) (λ x is. solo_append net x mid after es fs is second) first

pub rounds_lead : (net : Net) (r : Runtime) (n : ℕ) → solo_from net r (rounds_firings net r n) ≡ Some (rounds net r n)
rounds_lead net r zero = refl
rounds_lead net r (suc n) = solo_append net r (round net r) (rounds net (round net r) n) (round_firings net r) (rounds_firings net (round net r) n) (round_leads net r) (rounds_lead net (round net r) n)

-- ---- one round more at the end

rounds_more : (net : Net) (r : Runtime) (n : ℕ) → rounds net r (suc n) ≡ round net (rounds net r n)
rounds_more net r zero = refl
rounds_more net r (suc n) = rounds_more net (round net r) n

firings_more : (net : Net) (r : Runtime) (n : ℕ) → rounds_firings net r (suc n) ≡ rounds_firings net r n ++ round_firings net (rounds net r n)
firings_more net r zero = append-nil (round_firings net r)
firings_more net r (suc n) =
    ap (λ (fs : List (ℕ × ℕ)). round_firings net r ++ fs) (firings_more net (round net r) n)
    ∙ sym (append_assoc (round_firings net r) (rounds_firings net (round net r) n) (round_firings net (rounds net (round net r) n)))

-- ---- a run of rounds, cut at a number of firings

-- after so many firings: where there may be more, whole rounds were made
pub record RanSoFar (net : Net) (most fired : ℕ) (now : Runtime) : Type 0 where
  pub firings : List (ℕ × ℕ)
  pub run : IsPlainRun net most firings now
  pub made : length firings ≡ fired
  pub whole : fired < most → (firings ≡ rounds_firings net (opening net) run.count) × (now ≡ rounds net (opening net) run.count)

take_nothing : (n : ℕ) → take n (let none : List (ℕ × ℕ) = [] in none) ≡ []
take_nothing zero = refl
take_nothing (suc n) = refl

pub not_run : (net : Net) (most : ℕ) → RanSoFar net most 0 (opening net)
not_run net most = record {
  firings = [];
  run = record { count = 0; first = sym (take_nothing most); few = omega arith; defined = refl };
  made = refl;
  whole = λ more. (refl, refl);
}

-- one round more
pub round_made : (net : Net) (most fired more : ℕ) (now next : Runtime) → fired < most → RanSoFar net most fired now → more ≡ min (most - fired) (length (round_firings net now)) → Begins net now more next → RanSoFar net most (fired + more) next
round_made net most fired more now next fewer before is h =
    let list : List (ℕ × ℕ) = before.firings in
    let n : ℕ = before.run.count in
    let rf : List (ℕ × ℕ) = round_firings net now in
    let w = before.whole fewer in
    let all : rounds_firings net (opening net) (suc n) ≡ list ++ rf =
    firings_more net (opening net) n
    ∙ ap (λ (fs : List (ℕ × ℕ)). fs ++ round_firings net (rounds net (opening net) n)) (sym w.0)
    ∙ ap (λ (x : Runtime). list ++ round_firings net x) (sym w.1) in
    let piece : take more rf ≡ take (most - fired) rf = ap (λ (k : ℕ). take k rf) is ∙ take_min (most - fired) rf in
    let reach : length list + (most - fired) ≡ most = omega (arith, before.made, fewer) in
    let size : length (list ++ take more rf) ≡ fired + more = omega (arith, length-append list (take more rf), length-take-le more rf h.few, before.made) in
    record {
      firings = list ++ take more rf;
      run = record {
        count = suc n;
        first =
            ap (λ (fs : List (ℕ × ℕ)). list ++ fs) piece
            ∙ sym (take-append-add list rf (most - fired))
            ∙ ap (λ (k : ℕ). take k (list ++ rf)) reach
            ∙ ap (take most) (sym all);
        few = omega (arith, size, is, fewer);
        defined = solo_append net (opening net) now next list (take more rf) before.run.defined h.fired;
      };
      made = size;
      whole = λ still.
          let full : more ≡ length rf = omega (arith, is, still, h.few) in
          let entire : take more rf ≡ rf = ap (λ (k : ℕ). take k rf) full ∙ take-length rf in
          let led : solo_from net now rf ≡ Some next = ap (solo_from net now) (sym entire) ∙ h.fired in
          let next_is : next ≡ round net now = some_same (sym led ∙ round_leads net now) in (
            ap (λ (fs : List (ℕ × ℕ)). list ++ fs) entire ∙ sym all,
            next_is ∙ ap (round net) w.1 ∙ sym (rounds_more net (opening net) n),
          );
    }
  where
    some_same : {x y : Runtime} → Some x ≡ Some y → x ≡ y
    some_same e = cc

-- ---- a round that fires nothing

idle_case : (net : Net) (r : Runtime) (from count : ℕ) (rest : List (ℕ × ℕ)) (o : Option ℕ) → first_ready net r from ≡ o → option_to_list (option_map (λ (action : ℕ). (from, action)) o) ++ rest ≡ []
    → (turn net r from ≡ r → rest ≡ [] → (j : ℕ) → j < count → first_ready net r (suc from + j) ≡ None) → (k : ℕ) → k < suc count → first_ready net r (from + k) ≡ None
idle_case net r from count rest (Some action) same none below k within = cc
idle_case net r from count rest None same none below zero within = subst (λ (x : ℕ). first_ready net r x ≡ None) (sym (add-zero from)) same
idle_case net r from count rest None same none below (suc k) within =
    let stay : turn net r from ≡ r = ap (λ (o : Option ℕ). unwrap_or (option_and_then (λ (action : ℕ). fire net r from action) o) r) same in
    let place : suc from + k ≡ from + suc k = omega arith in
    subst (λ (x : ℕ). first_ready net r x ≡ None) place (below stay none k (omega arith))

idle_turns : (net : Net) (r : Runtime) (from count : ℕ) → firings_in net r from count ≡ [] → (k : ℕ) → k < count → first_ready net r (from + k) ≡ None
idle_turns net r from zero none k within = absurd (omega arith)
idle_turns net r from (suc count) none k within =
    idle_case net r from count (firings_in net (turn net r from) (suc from) count) (first_ready net r from) refl none
    (λ stay rest j h. subst (λ (x : Runtime). first_ready net x (suc from + j) ≡ None) stay (idle_turns net (turn net r from) (suc from) count rest j h)) k within

nothing_in : (fs : List (ℕ × ℕ)) → length fs ≡ 0 → fs ≡ []
nothing_in [] e = refl
nothing_in (f ∷ fs) e = absurd (omega (arith, e))

-- a round that was allowed to fire and fired nothing leaves nothing to fire
pub idle : (net : Net) (most fired more : ℕ) (now : Runtime) → fired < most → more ≡ min (most - fired) (length (round_firings net now)) → more ≡ 0 → IsIdle net now
idle net most fired more now fewer is none actor within =
    let short : length (round_firings net now) ≡ 0 = omega (arith, is, none, fewer) in
    subst (λ (x : ℕ). first_ready net now x ≡ None) (zero-add actor) (idle_turns net now 0 (length net.actors) (nothing_in (round_firings net now) short) actor within)

stays_put : (net : Net) (now next : Runtime) (more : ℕ) → Begins net now more next → more ≡ 0 → now ≡ next
stays_put net now next more h none = some_is (sym (ap (λ (k : ℕ). solo_from net now (take k (round_firings net now))) none) ∙ h.fired)
  where
    some_is : {x y : Runtime} → Some x ≡ Some y → x ≡ y
    some_is e = cc

-- where a round that was allowed to fire fired nothing, fewer firings were made than were allowed, and no action is ready
pub stopped : (net : Net) (most fired more : ℕ) (now next : Runtime) → fired < most → RanSoFar net most fired now → more ≡ min (most - fired) (length (round_firings net now)) → Begins net now more next → more ≡ 0
    → (firings : List (ℕ × ℕ)) × IsPlainRun net most firings next × (length firings ≡ fired) × ((length firings < most) × IsIdle net next)
stopped net most fired more now next fewer before is h none =
    subst (λ (x : Runtime). (firings : List (ℕ × ℕ)) × IsPlainRun net most firings x × (length firings ≡ fired) × ((length firings < most) × IsIdle net x)) (stays_put net now next more h none)
    (before.firings, before.run, before.made, (omega (arith, before.made, fewer), idle net most fired more now fewer is none))

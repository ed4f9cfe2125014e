-- One state of the one runtime follows another: each actor of a region gets from where it is in the first to where it is in
-- the second by firings of its own, over what the second wrote.
use Rattle.std.proofs.Common.{◌≡◌, ℕ, zero, suc, ◌+◌, ◌≤◌, ◌<◌, true, List, [], ◌∷◌, length, slice_get, Some, ◌⊎◌, inl, inr, refl, sym, ◌∙◌, subst, arith, ⊎_elim}
use Rattle.std.proofs.lemmas.Bool.{cases_lt}
use Rattle.std.proofs.lemmas.Option.{slice_get_within}
use Rattle.cv_kinds.specs.declared.network.ActorSpec.{ActorSpec}
use Rattle.cv_kinds.specs.Net.{Net}
use Rattle.cv_kinds.specs.Wired.{IsWired}
use Rattle.cv_solo.specs.OneRuntime.{Runtime, fire, opening, solo, solo_from}
use Rattle.cv_solo.specs.PlainNetwork.{plain, round, rounds, turn, turns}
use Rattle.cv_kahn.proofs.Alone.{Local, can}
use Rattle.cv_kahn.proofs.Family.{Ahead, Region, after, catch_fire, catch_stay, fed, keep_up}
use Rattle.cv_kahn.proofs.Mirrors.{Mirrors, and_then_some, fires, first, opens, same_ready}
use Rattle.cv_kahn.proofs.Turned.{Still, turned}

pub record Follows (net : Net) (D : ℕ → Type 0) (r s : Runtime) : Type 0 where
  pub low : ℕ → Local
  pub high : ℕ → Local
  pub low_fits : Mirrors net r low
  pub high_fits : Mirrors net s high
  pub ahead : Ahead net D low high

pub start : (net : Net) (D : ℕ → Type 0) → Follows net D (opening net) (opening net)
start net D = record {
  low = first net;
  high = first net;
  low_fits = opens net;
  high_fits = opens net;
  ahead = λ a spec leads is. ([], refl);
}

-- ---- one firing

-- of the state that is ahead
high_fires : (net : Net) (D : ℕ → Type 0) (r s next : Runtime) (b k : ℕ) → IsWired net → Follows net D r s → fire net s b k ≡ Some next → Follows net D r next
high_fires net D r s next b k wired f e =
    let h = fires net s next f.high b k wired f.high_fits e in
    record {
      low = f.low;
      high = after net h.spec f.high b k;
      low_fits = f.low_fits;
      high_fits = h.fits;
      ahead = keep_up net D f.low f.high b k h.spec f.ahead h.is h.ready;
    }

-- of the state that is behind, where that actor can't fire in the state ahead
low_fires : (net : Net) (D : ℕ → Type 0) (r s next : Runtime) (b k : ℕ) → IsWired net → Region net D → Follows net D r s → fire net r b k ≡ Some next → (D b → Still net s b) → Follows net D next s
low_fires net D r s next b k wired region f e still =
    let h = fires net r next f.low b k wired f.low_fits e in
    record {
      low = after net h.spec f.low b k;
      high = f.high;
      low_fits = h.fits;
      high_fits = f.high_fits;
      ahead = catch_stay net D f.low f.high b k h.spec region f.ahead h.is h.ready (λ leads i. sym (same_ready net s f.high b i h.spec f.high_fits) ∙ still leads i h.spec h.is);
    }

-- of both
both_fire : (net : Net) (D : ℕ → Type 0) (r s next later : Runtime) (b k i : ℕ) → IsWired net → Region net D → Follows net D r s → fire net r b k ≡ Some next → fire net s b i ≡ Some later → Follows net D next later
both_fire net D r s next later b k i wired region f e g =
    let h = fires net r next f.low b k wired f.low_fits e in
    let o = fires net s later f.high b i wired f.high_fits g in
    let same : o.spec ≡ h.spec = let both : Some o.spec ≡ Some h.spec = sym o.is ∙ h.is in cc in
    record {
      low = after net h.spec f.low b k;
      high = after net h.spec f.high b i;
      low_fits = h.fits;
      high_fits = subst (λ (spec : ActorSpec). Mirrors net later (after net spec f.high b i)) same o.fits;
      ahead = catch_fire net D f.low f.high b k i h.spec region f.ahead h.is h.ready (subst (λ (spec : ActorSpec). can spec (fed net f.high b) (f.high b) i ≡ true) same o.ready);
    }

-- ---- turns

high_turn_by : (net : Net) (D : ℕ → Type 0) (r s : Runtime) (b : ℕ) → IsWired net → Follows net D r s → ((k : ℕ) × (fire net s b k ≡ Some (turn net s b))) ⊎ ((turn net s b ≡ s) × Still net s b) → Follows net D r (turn net s b)
high_turn_by net D r s b wired f (inl fired) = high_fires net D r s (turn net s b) b fired.0 wired f fired.1
high_turn_by net D r s b wired f (inr idle) = subst (Follows net D r) (sym idle.0) f

pub high_turns : (net : Net) (D : ℕ → Type 0) (r s : Runtime) (from count : ℕ) → IsWired net → Follows net D r s → Follows net D r (turns net s from count)
high_turns net D r s from zero wired f = f
high_turns net D r s from (suc count) wired f = high_turns net D r (turn net s from) (suc from) count wired (high_turn_by net D r s from wired f (turned net s from))

low_turn_by : (net : Net) (D : ℕ → Type 0) (r s : Runtime) (b : ℕ) → IsWired net → Region net D → Follows net D r s → (D b → Still net s b) → ((k : ℕ) × (fire net r b k ≡ Some (turn net r b))) ⊎ ((turn net r b ≡ r) × Still net r b) → Follows net D (turn net r b) s
low_turn_by net D r s b wired region f still (inl fired) = low_fires net D r s (turn net r b) b fired.0 wired region f fired.1 still
low_turn_by net D r s b wired region f still (inr idle) = subst (λ (x : Runtime). Follows net D x s) (sym idle.0) f

low_turns : (net : Net) (D : ℕ → Type 0) (r s : Runtime) (from count : ℕ) → IsWired net → Region net D → Follows net D r s → ((b : ℕ) → D b → Still net s b) → Follows net D (turns net r from count) s
low_turns net D r s from zero wired region f still = f
low_turns net D r s from (suc count) wired region f still = low_turns net D (turn net r from) s (suc from) count wired region (low_turn_by net D r s from wired region f (still from) (turned net r from)) still

both_turn_by : (net : Net) (D : ℕ → Type 0) (r s next : Runtime) (b k : ℕ) → IsWired net → Region net D → Follows net D r s → fire net r b k ≡ Some next → ((i : ℕ) × (fire net s b i ≡ Some (turn net s b))) ⊎ ((turn net s b ≡ s) × Still net s b) → Follows net D next (turn net s b)
both_turn_by net D r s next b k wired region f e (inl fired) = both_fire net D r s next (turn net s b) b k fired.0 wired region f e fired.1
both_turn_by net D r s next b k wired region f e (inr idle) = subst (Follows net D next) (sym idle.0) (low_fires net D r s next b k wired region f e (λ leads. idle.1))

-- the firing of the state behind is laid on that actor's turn
both_turns : (net : Net) (D : ℕ → Type 0) (r s next : Runtime) (b k from count : ℕ) → IsWired net → Region net D → Follows net D r s → fire net r b k ≡ Some next → from ≤ b → b < from + count → Follows net D next (turns net s from count)
both_turns net D r s next b k from zero wired region f e past within = absurd (omega arith)
both_turns net D r s next b k from (suc count) wired region f e past within =
    ⊎_elim
    (λ before. let less : b < suc from + count = omega arith in both_turns net D r (turn net s from) next b k (suc from) count wired region (high_turn_by net D r s from wired f (turned net s from)) e before less)
    (λ here.
    let same : b ≡ from = omega arith in
    high_turns net D next (turn net s from) (suc from) count wired (subst (λ (i : ℕ). Follows net D next (turn net s i)) same (both_turn_by net D r s next b k wired region f e (turned net s b))))
    (cases_lt from b)

-- ---- rounds and runs

fire_within : (net : Net) (r next : Runtime) (b k : ℕ) → fire net r b k ≡ Some next → b < 0 + length net.actors
fire_within net r next b k e =
    let w = and_then_some _ (slice_get net.actors b) next e in
    let within : b < length net.actors = slice_get_within net.actors b w.0 w.1 in
    omega arith

both_round : (net : Net) (D : ℕ → Type 0) (r s next : Runtime) (b k : ℕ) → IsWired net → Region net D → Follows net D r s → fire net r b k ≡ Some next → Follows net D next (round net s)
both_round net D r s next b k wired region f e = let from_first : 0 ≤ b = omega arith in both_turns net D r s next b k 0 (length net.actors) wired region f e from_first (fire_within net r next b k e)

high_rounds : (net : Net) (D : ℕ → Type 0) (r s : Runtime) (n : ℕ) → IsWired net → Follows net D r s → Follows net D r (rounds net s n)
high_rounds net D r s zero wired f = f
high_rounds net D r s (suc n) wired f = high_rounds net D r (round net s) n wired (high_turns net D r s 0 (length net.actors) wired f)

low_rounds : (net : Net) (D : ℕ → Type 0) (r s : Runtime) (n : ℕ) → IsWired net → Region net D → Follows net D r s → ((b : ℕ) → D b → Still net s b) → Follows net D (rounds net r n) s
low_rounds net D r s zero wired region f still = f
low_rounds net D r s (suc n) wired region f still = low_rounds net D (round net r) s n wired region (low_turns net D r s 0 (length net.actors) wired region f still) still

run_low : (net : Net) (D : ℕ → Type 0) (r s next : Runtime) (fs : List (ℕ × ℕ)) (n : ℕ) → IsWired net → Region net D → Follows net D r s → solo_from net r fs ≡ Some next → length fs ≤ n → Follows net D next (rounds net s n)
run_low net D r s next [] n wired region f e few = let same : r ≡ next = cc in subst (λ (x : Runtime). Follows net D x (rounds net s n)) same (high_rounds net D r s n wired f)
run_low net D r s next (g ∷ fs) zero wired region f e few = absurd (omega arith)
run_low net D r s next (g ∷ fs) (suc n) wired region f e few =
    let w = and_then_some (λ (x : Runtime). solo_from net x fs) (fire net r g.0 g.1) next e in
    let fewer : length fs ≤ n = omega arith in
    run_low net D w.0 (round net s) next fs n wired region (both_round net D r s w.0 g.0 g.1 wired region f w.1) w.2 fewer

run_high : (net : Net) (D : ℕ → Type 0) (r s next : Runtime) (fs : List (ℕ × ℕ)) → IsWired net → Follows net D r s → solo_from net s fs ≡ Some next → Follows net D r next
run_high net D r s next [] wired f e = let same : s ≡ next = cc in subst (Follows net D r) same f
run_high net D r s next (g ∷ fs) wired f e =
    let w = and_then_some (λ (x : Runtime). solo_from net x fs) (fire net s g.0 g.1) next e in
    run_high net D r w.0 next fs wired (high_fires net D r s w.0 g.0 g.1 wired f w.1) w.2

-- a run follows as many rounds as it has firings
pub run_follows : (net : Net) (D : ℕ → Type 0) (firings : List (ℕ × ℕ)) (r : Runtime) (n : ℕ) → IsWired net → Region net D → solo net firings ≡ Some r → length firings ≤ n → Follows net D r (plain net n)
run_follows net D firings r n wired region e few = run_low net D (opening net) (opening net) r firings n wired region (start net D) e few

-- and any number of rounds follows a run that rests
pub rounds_follow : (net : Net) (D : ℕ → Type 0) (firings : List (ℕ × ℕ)) (r : Runtime) (n : ℕ) → IsWired net → Region net D → solo net firings ≡ Some r → ((b : ℕ) → D b → Still net r b) → Follows net D (plain net n) r
rounds_follow net D firings r n wired region e still = low_rounds net D (opening net) r n wired region (run_high net D (opening net) (opening net) r firings wired (start net D) e) still

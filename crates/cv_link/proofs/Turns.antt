-- Numbers of frames over the turns of a run.
use Rattle.std.proofs.Common.{◌≡◌, ℕ, ◌+◌, ◌^◌, ◌<◌, List, [], ◌∷◌, ◌++◌, length, refl, subst, arith}
use Rattle.cv_protocol.specs.declared.frame.Frame.{Frame}
use Rattle.cv_link.specs.declared.plan.Taken.{Taken}
use Rattle.cv_link.specs.Items.{LinkView, link_of}
use Rattle.cv_link.specs.Plan.{PlanView, IsJudged, number_after, new_plan, counted}
use Rattle.cv_link.specs.Runs.{Turn, TellsTurn, after_turn, TellsRun, frames_in, EachAsPlanned}
use Rattle.cv_link.proofs.Words.{as_planned}

number_after-below : (n : ℕ) → n + 1 < 2 ^ 64 → number_after n ≡ n + 1
number_after-below n h = omega arith

-- frame k, which has so many frames of its turn in front of it
judged_in_turn : (p : PlanView) (front : Turn) (frame : Frame) (told : Taken) (rest : Turn) (k : ℕ) → TellsTurn p (front ++ (frame, told) ∷ rest) → p.next + length front ≡ k → k < 2 ^ 64 → IsJudged p.items p.since k frame told
judged_in_turn p [] frame told rest k tells e small = subst (λ (n : ℕ). IsJudged p.items p.since n frame told) (omega arith) tells.0
judged_in_turn p (x ∷ xs) frame told rest k tells e small =
    let n = number_after-below p.next (omega arith) in
    judged_in_turn (counted p) xs frame told rest k tells.1 (omega (arith, n)) small

next_after : (p : PlanView) (t : Turn) → p.next + length t < 2 ^ 64 → (after_turn p t).next ≡ p.next + length t
next_after p [] small = omega arith
next_after p (x ∷ xs) small =
    let n = number_after-below p.next (omega arith) in
    let m = next_after (counted p) xs (omega (arith, n)) in omega (arith, n, m)

since_after : (p : PlanView) (t : Turn) → (after_turn p t).since ≡ (after_turn p t).next
since_after p [] = refl
since_after p (x ∷ xs) = since_after (counted p) xs

items_after : (p : PlanView) (t : Turn) → (after_turn p t).items ≡ p.items
items_after p [] = refl
items_after p (x ∷ xs) = items_after (counted p) xs

-- frame k, whose turn begins with frame s
judged_in_run : (p : PlanView) (before : List Turn) (front : Turn) (frame : Frame) (told : Taken) (rest : Turn) (after : List Turn) (s k : ℕ) → TellsRun p (before ++ (front ++ (frame, told) ∷ rest) ∷ after) → p.since ≡ p.next → p.next + frames_in before ≡ s → s + length front ≡ k → k < 2 ^ 64 → IsJudged p.items s k frame told
judged_in_run p [] front frame told rest after s k tells begins es ek small =
    subst (λ (n : ℕ). IsJudged p.items n k frame told) (omega arith) (judged_in_turn p front frame told rest k tells.0 (omega arith) small)
judged_in_run p (t ∷ ts) front frame told rest after s k tells begins es ek small =
    let n = next_after p t (omega arith) in
    subst (λ (l : LinkView). IsJudged l s k frame told) (items_after p t)
    (judged_in_run (after_turn p t) ts front frame told rest after s k tells.1 (since_after p t) (omega (arith, n)) ek small)

pub each_as_planned : EachAsPlanned
each_as_planned items from to before front frame told rest after tells small =
    as_planned items from to _ _ frame told
    (judged_in_run (new_plan (link_of from to items)) before front frame told rest after _ _ tells refl (omega arith) (omega arith) small)

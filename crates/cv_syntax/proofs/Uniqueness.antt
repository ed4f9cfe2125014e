-- Words that spell a script have no fault, and words have one fault at most.
use Rattle.std.proofs.Common.{◌≡◌, ℕ, ◌⊎◌, inl, inr, List, [], ◌∷◌, ◌++◌, refl, ap, sym, ◌∙◌, subst, append_assoc, append-nil}
use Rattle.cv_lex.specs.declared.word.Placed.{Placed}
use Rattle.cv_readers.specs.Slots.{Slot, Matches, IsWithin}
use Rattle.cv_readers.proofs.Matching.{matches_append, within_first}
use Rattle.cv_syntax.specs.declared.tree.Script.{Script}
use Rattle.cv_syntax.specs.declared.fault.ParseFault.{ParseFault}
use Rattle.cv_syntax.specs.declared.fault.ParseFault.TheVariants as faults
use Rattle.cv_syntax.specs.Whole.{most_levels}
use Rattle.cv_syntax.specs.Spelling.{script_slots}
use Rattle.cv_syntax.specs.Grammar.{SpellsTree, Begins, BeginsAny, first_place, IsUnexpected, IsTooDeep, HasFault}

-- ---- what begins with more words begins with fewer

record Parts (us vs : List Placed) (ss : List Slot) : Type 0 where
  pub first : List Slot
  pub second : List Slot
  pub whole : ss ≡ first ++ second
  pub fits : Matches first us

words_split : (us vs : List Placed) (ss : List Slot) → Matches ss (us ++ vs) → Parts us vs ss
words_split [] vs ss m = record { first = []; second = ss; whole = refl; fits = tt }
words_split (u ∷ us) vs [] m = absurd m
words_split (u ∷ us) vs (s ∷ ss) m =
    let p = words_split us vs ss m.1 in
    record { first = s ∷ p.first; second = p.second; whole = ap (λ z. s ∷ z) p.whole; fits = (m.0, p.fits) }

begins_front : (us vs : List Placed) → Begins (us ++ vs) → Begins us
begins_front us vs b =
    let p = words_split us vs b.ss b.fits in
    record {
      script = b.script;
      ss = p.first;
      more = p.second ++ b.more;
      split = b.split ∙ ap (λ z. z ++ b.more) p.whole ∙ append_assoc p.first p.second b.more;
      fits = p.fits;
      low = within_first most_levels p.first p.second (subst (IsWithin most_levels) p.whole b.low);
      whole = b.whole;
    }

any_front : (us vs : List Placed) → BeginsAny (us ++ vs) → BeginsAny us
any_front us vs b =
    let p = words_split us vs b.ss b.fits in
    record { script = b.script; ss = p.first; more = p.second ++ b.more; split = b.split ∙ ap (λ z. z ++ b.more) p.whole ∙ append_assoc p.first p.second b.more; fits = p.fits; whole = b.whole }

any_of : (us : List Placed) → Begins us → BeginsAny us
any_of us b = record { script = b.script; ss = b.ss; more = b.more; split = b.split; fits = b.fits; whole = b.whole }

-- the words of a script begin it
begins_whole : (ws : List Placed) (script : Script) → SpellsTree ws script → Begins ws
begins_whole ws script s = record { script = script; ss = script_slots script; more = []; split = sym (append-nil (script_slots script)); fits = s.fits; low = s.low; whole = s.whole }

-- a script begins with the word that opens a level too many
any_deep : (ws : List Placed) (at : ℕ) (t : IsTooDeep ws at) → BeginsAny (t.front ++ t.w ∷ [])
any_deep ws at t = record {
  script = t.script;
  ss = t.ss ++ t.s ∷ [];
  more = t.more;
  split = t.split ∙ sym (append_assoc t.ss (t.s ∷ []) t.more);
  fits = matches_append t.ss (t.s ∷ []) t.front (t.w ∷ []) t.fits (t.here, tt);
  whole = t.whole;
}

begins_next : (front : List Placed) (w : Placed) (rest : List Placed) → Begins (front ++ w ∷ rest) → Begins (front ++ w ∷ [])
begins_next front w rest b = begins_front (front ++ w ∷ []) rest (subst Begins (sym (append_assoc front (w ∷ []) rest)) b)

any_next : (front : List Placed) (w : Placed) (rest : List Placed) → BeginsAny (front ++ w ∷ rest) → BeginsAny (front ++ w ∷ [])
any_next front w rest b = any_front (front ++ w ∷ []) rest (subst BeginsAny (sym (append_assoc front (w ∷ []) rest)) b)

-- ---- two ways to cut one list

-- the first front is the shorter one
record Shorter (us bad vs : List Placed) : Type 0 where
  pub w : Placed
  pub rest : List Placed
  pub mid : List Placed
  pub here : bad ≡ w ∷ rest
  pub longer : vs ≡ us ++ w ∷ mid

abbrev Cuts : List Placed → List Placed → List Placed → List Placed → Type 0
Cuts us xs vs ys = ((us ≡ vs) × (xs ≡ ys)) ⊎ (Shorter us xs vs ⊎ Shorter vs ys us)

cuts_later : (v : Placed) (us xs vs ys : List Placed) → Cuts us xs vs ys → Cuts (v ∷ us) xs (v ∷ vs) ys
cuts_later v us xs vs ys (inl e) = inl (ap (λ z. v ∷ z) e.0, e.1)
cuts_later v us xs vs ys (inr (inl s)) = inr (inl (record { w = s.w; rest = s.rest; mid = s.mid; here = s.here; longer = ap (λ z. v ∷ z) s.longer }))
cuts_later v us xs vs ys (inr (inr s)) = inr (inr (record { w = s.w; rest = s.rest; mid = s.mid; here = s.here; longer = ap (λ z. v ∷ z) s.longer }))

cuts : (us xs vs ys : List Placed) → us ++ xs ≡ vs ++ ys → Cuts us xs vs ys
cuts [] xs [] ys e = inl (refl, e)
cuts [] xs (v ∷ vs) ys e = inr (inl (record { w = v; rest = vs ++ ys; mid = vs; here = e; longer = refl }))
cuts (u ∷ us) xs [] ys e = inr (inr (record { w = u; rest = us ++ xs; mid = us; here = sym e; longer = refl }))
cuts (u ∷ us) xs (v ∷ vs) ys e =
    let head : u ≡ v = cc in
    let tail : us ++ xs ≡ vs ++ ys = cc in
    subst (λ z. Cuts (u ∷ us) xs (z ∷ vs) ys) head (cuts_later u us xs vs ys (cuts us xs vs ys tail))

-- ---- words that spell a script

finished : (end : ℕ) (ws : List Placed) (at : ℕ) (script : Script) → SpellsTree ws script → (u : IsUnexpected end ws at) → (bad : List Placed) → u.bad ≡ bad → ⊥
finished end ws at script s u [] e = u.unfinished e script s
finished end ws at script s u (w ∷ rest) e =
    u.first w rest e (any_next u.front w rest (any_of _ (subst Begins (u.whole ∙ ap (λ z. u.front ++ z) e) (begins_whole ws script s))))

low_enough : (ws : List Placed) (at : ℕ) (script : Script) → SpellsTree ws script → IsTooDeep ws at → ⊥
low_enough ws at script s t = t.first (begins_next t.front t.w t.rest (subst Begins t.words (begins_whole ws script s)))

pub spelled_whole : (end : ℕ) (ws : List Placed) (script : Script) → SpellsTree ws script → (fault : ParseFault) → HasFault end ws fault → ⊥
spelled_whole end ws script s (faults.Unexpected at) u = finished end ws at script s u u.bad refl
spelled_whole end ws script s (faults.TooDeep at) t = low_enough ws at script s t
spelled_whole end ws script s faults.OutOfMemory f = f

-- ---- two faults

-- what begins a script does not go on where another fault is
unexpected_before : (end : ℕ) (ws : List Placed) (at : ℕ) (u : IsUnexpected end ws at) (vs : List Placed) → BeginsAny vs → Shorter u.front u.bad vs → ⊥
unexpected_before end ws at u vs b s = u.first s.w s.rest s.here (any_next u.front s.w s.mid (subst BeginsAny s.longer b))

same_word : (v w : Placed) (vs ws : List Placed) → v ∷ vs ≡ w ∷ ws → v ≡ w
same_word v w vs ws e = cc

deep_before : (ws : List Placed) (at : ℕ) (t : IsTooDeep ws at) (vs : List Placed) → Begins vs → Shorter t.front (t.w ∷ t.rest) vs → ⊥
deep_before ws at t vs b s =
    t.first (subst (λ z. Begins (t.front ++ z ∷ [])) (sym (same_word t.w s.w t.rest s.rest s.here)) (begins_next t.front s.w s.mid (subst Begins s.longer b)))

one_unexpected : (end : ℕ) (ws : List Placed) (a b : ℕ) (s : IsUnexpected end ws a) (t : IsUnexpected end ws b) → Cuts s.front s.bad t.front t.bad → a ≡ b
one_unexpected end ws a b s t (inl e) = s.place ∙ ap (first_place end) e.1 ∙ sym t.place
one_unexpected end ws a b s t (inr (inl c)) = absurd (unexpected_before end ws a s t.front (any_of _ t.begins) c)
one_unexpected end ws a b s t (inr (inr c)) = absurd (unexpected_before end ws b t s.front (any_of _ s.begins) c)

deep_begins : (ws : List Placed) (at : ℕ) (t : IsTooDeep ws at) → Begins t.front
deep_begins ws at t = record { script = t.script; ss = t.ss; more = t.s ∷ t.more; split = t.split; fits = t.fits; low = t.low; whole = t.whole }

one_deep : (ws : List Placed) (a b : ℕ) (s : IsTooDeep ws a) (t : IsTooDeep ws b) → Cuts s.front (s.w ∷ s.rest) t.front (t.w ∷ t.rest) → a ≡ b
one_deep ws a b s t (inl e) = s.place ∙ ap (λ z. z.at) (same_word s.w t.w s.rest t.rest e.1) ∙ sym t.place
one_deep ws a b s t (inr (inl c)) = absurd (deep_before ws a s t.front (deep_begins ws b t) c)
one_deep ws a b s t (inr (inr c)) = absurd (deep_before ws b t s.front (deep_begins ws a s) c)

not_both_faults : (end : ℕ) (ws : List Placed) (a b : ℕ) (u : IsUnexpected end ws a) (t : IsTooDeep ws b) → Cuts u.front u.bad t.front (t.w ∷ t.rest) → ⊥
not_both_faults end ws a b u t (inl e) = u.first t.w t.rest e.1 (subst (λ z. BeginsAny (z ++ t.w ∷ [])) (sym e.0) (any_deep ws b t))
not_both_faults end ws a b u t (inr (inl c)) = unexpected_before end ws a u t.front (any_of _ (deep_begins ws b t)) c
not_both_faults end ws a b u t (inr (inr c)) = deep_before ws b t u.front u.begins c

pub one_fault : (end : ℕ) (ws : List Placed) (f g : ParseFault) → HasFault end ws f → HasFault end ws g → f ≡ g
one_fault end ws (faults.Unexpected a) (faults.Unexpected b) s t =
    ap faults.Unexpected (one_unexpected end ws a b s t (cuts s.front s.bad t.front t.bad (sym s.whole ∙ t.whole)))
one_fault end ws (faults.Unexpected a) (faults.TooDeep b) s t =
    absurd (not_both_faults end ws a b s t (cuts s.front s.bad t.front (t.w ∷ t.rest) (sym s.whole ∙ t.words)))
one_fault end ws (faults.TooDeep a) (faults.Unexpected b) s t =
    absurd (not_both_faults end ws b a t s (cuts t.front t.bad s.front (s.w ∷ s.rest) (sym t.whole ∙ s.words)))
one_fault end ws (faults.TooDeep a) (faults.TooDeep b) s t =
    ap faults.TooDeep (one_deep ws a b s t (cuts s.front (s.w ∷ s.rest) t.front (t.w ∷ t.rest) (sym s.words ∙ t.words)))
one_fault end ws faults.OutOfMemory g s t = absurd s
one_fault end ws (faults.Unexpected a) faults.OutOfMemory s t = absurd t
one_fault end ws (faults.TooDeep a) faults.OutOfMemory s t = absurd t

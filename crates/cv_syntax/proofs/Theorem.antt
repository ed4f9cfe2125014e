-- What is parsed is what the grammar says.
use Rattle.std.proofs.Common.{◌≡◌, ℕ, suc, ◌+◌, ◌-◌, ◌≤◌, inl, inr, Bool, true, false, cond, IfOk, IfErr, List, [], ◌∷◌, ◌++◌, length, slice_get, Result, Ok, Err, refl, ap, sym, ◌∙◌, subst, append_assoc, append-nil, arith}
use Rattle.std.proofs.lemmas.List.{length-append}
use Rattle.std.specs.List.{AllByRecursion}
use Rattle.cv_lex.specs.declared.word.Placed.{Placed}
use Rattle.cv_readers.specs.Reading.{Miss, Read, first_is}
use Rattle.cv_readers.specs.Slots.{Slot, Matches, IsWithin, all_slots}
use Rattle.cv_readers.proofs.Matching.{matches_append}
use Rattle.cv_readers.proofs.Above.{Above, fill, fill_fits, WithinOrClimbs, within_or_climbs, climbs_behind}
use Rattle.cv_readers.proofs.Promises.{never, never_first, missed, read_same, not_both, miss_same, Reaches}
use Rattle.cv_readers.proofs.Manies.{either}
use Rattle.cv_readers.proofs.Kepts.{Kept}
use Rattle.cv_syntax.specs.declared.tree.Item.{Item}
use Rattle.cv_syntax.specs.declared.tree.Script.{Script}
use Rattle.cv_syntax.specs.declared.fault.ParseFault.{ParseFault}
use Rattle.cv_syntax.specs.declared.fault.ParseFault.TheVariants as faults
use Rattle.cv_syntax.specs.Whole.{most_levels, items_at, is_anything}
use Rattle.cv_syntax.specs.Spelling.{item_slots, script_slots, WholeItem}
use Rattle.cv_syntax.specs.Parsing.{place_or, place_left, fault_of, answer_of, parsed, Answers}
use Rattle.cv_syntax.specs.Grammar.{SpellsTree, Begins, BeginsAny, first_place, IsUnexpected, IsTooDeep, HasFault, IsFault}
use Rattle.cv_syntax.proofs.Scripts.{items_reads}
use Rattle.cv_syntax.proofs.Levels.{rises_items}
use Rattle.cv_syntax.proofs.Uniqueness.{spelled_whole, one_fault}

-- ---- found

no_rest : (rest : List Placed) → first_is (either is_anything never) rest ≡ false → rest ≡ []
no_rest [] e = refl
no_rest (w ∷ rest) e = cc

found_by : (end : ℕ) (ws : List Placed) (script : Script) (a : Read (List Item)) → items_at most_levels ws ≡ a → answer_of end ws a ≡ Ok script → SpellsTree ws script
found_by end ws script (Ok p) e r =
    let same : record { items = p.0 } ≡ script = cc in
    let t = (items_reads most_levels).takes ws p.0 p.1 (never_first ws) e in
    let all = t.whole ∙ ap (λ z. t.front ++ z) (no_rest p.1 t.stops) ∙ append-nil t.front in
    subst (SpellsTree ws) same (record { whole = t.fine; low = t.low; fits = subst (Matches (all_slots item_slots p.0)) (sym all) t.fits })
found_by end ws script (Err miss) e r = cc

pub found_of : (end : ℕ) (ws : List Placed) (r : Result Script ParseFault) → Answers r (parsed end ws) → IfOk r (λ script. SpellsTree ws script)
found_of end ws (Ok script) e = found_by end ws script (items_at most_levels ws) refl e
found_of end ws (Err fault) e = tt

-- ---- only

pub read_again : (ws : List Placed) (script : Script) → SpellsTree ws script → items_at most_levels ws ≡ Ok (script.items, [])
read_again ws script s =
    ap (items_at most_levels) (sym (append-nil ws)) ∙ (items_reads most_levels).again script.items ws [] s.whole s.low s.fits refl

pub only_of : (end : ℕ) (ws : List Placed) (r : Result Script ParseFault) → Answers r (parsed end ws) → (script : Script) → SpellsTree ws script → Answers r (Ok script)
only_of end ws r e script s = subst (Answers r) (ap (answer_of end ws) (read_again ws script s)) e

ok_items : {X : Type 0} (x y : X) (ws : List Placed) (a : Read X) → a ≡ Ok (x, ws) → a ≡ Ok (y, ws) → x ≡ y
ok_items x y ws a e f = read_same x y ws ws (sym e ∙ f)

-- words spell one script at most
pub one_script : (ws : List Placed) (a b : Script) → SpellsTree ws a → SpellsTree ws b → a ≡ b
one_script ws a b s t =
    ap (λ z. record { items = z }) (ok_items a.items b.items [] (items_at most_levels ws) (read_again ws a s) (read_again ws b t))

-- ---- the place

get_behind : (front bad : List Placed) → slice_get (front ++ bad) (length front) ≡ slice_get bad 0
get_behind [] bad = refl
get_behind (w ∷ front) bad = get_behind front bad

first_or : (end : ℕ) (bad : List Placed) → place_or end (slice_get bad 0) ≡ first_place end bad
first_or end [] = refl
first_or end (w ∷ bad) = refl

place_is : (end left : ℕ) (ws front bad : List Placed) → ws ≡ front ++ bad → length bad ≡ left → place_left end ws left ≡ first_place end bad
place_is end left ws front bad e l =
    let whole : place_left end ws left ≡ place_or end (slice_get (front ++ bad) (length (front ++ bad) - left)) = ap (λ z. place_left end z left) e in
    let here : length (front ++ bad) - left ≡ length front = omega (arith, length-append front bad, l) in
    whole ∙ ap (λ k. place_or end (slice_get (front ++ bad) k)) here ∙ ap (place_or end) (get_behind front bad) ∙ first_or end bad

-- ---- a word more

-- a script that begins so, with at most 16 levels open at each of these words, goes on without the stop
no_begin_by : (front : List Placed) (w : Placed) (b : Begins (front ++ w ∷ [])) (more : List Placed) → Matches (script_slots b.script) ((front ++ w ∷ []) ++ more) → items_at most_levels ((front ++ w ∷ []) ++ more) ≡ Err (missed true (suc (length more))) → WithinOrClimbs most_levels (script_slots b.script) ((front ++ w ∷ []) ++ more) → ⊥
no_begin_by front w b more words stop (inl low) =
    not_both (items_at most_levels ((front ++ w ∷ []) ++ more)) (b.script.items, []) (missed true (suc (length more))) (read_again ((front ++ w ∷ []) ++ more) b.script (record { whole = b.whole; low = low; fits = words })) stop
no_begin_by front w b more words stop (inr c) =
    let here : items_at most_levels ((front ++ w ∷ []) ++ more) ≡ Err (missed true (suc (length c.rest))) = ap (items_at most_levels) c.whole ∙ (items_reads most_levels).deep b.script.items c.front c.w c.rest b.whole c.above in
    let same = miss_same (items_at most_levels ((front ++ w ∷ []) ++ more)) (missed true (suc (length c.rest))) (missed true (suc (length more))) here stop in
    let left : suc (length c.rest) ≡ suc (length more) = ap (λ m. m.left) same in
    let behind = climbs_behind most_levels b.ss b.more (front ++ w ∷ []) more c.front c.w c.rest b.fits b.low c.whole (subst (λ ss. Above most_levels ss c.front c.w) b.split c.above) in
    omega (arith, left, behind)

no_begin : (front : List Placed) (w : Placed) (rest : List Placed) → items_at most_levels (front ++ w ∷ rest) ≡ Err (missed true (suc (length rest))) → ¬ Begins (front ++ w ∷ [])
no_begin front w rest e b =
    let more = fill b.more in
    let words : Matches (script_slots b.script) ((front ++ w ∷ []) ++ more) = subst (λ ss. Matches ss ((front ++ w ∷ []) ++ more)) (sym b.split) (matches_append b.ss b.more (front ++ w ∷ []) more b.fits (fill_fits b.more)) in
    let stop = ap (items_at most_levels) (append_assoc front (w ∷ []) more) ∙ (items_reads most_levels).local true front w rest more e in
    no_begin_by front w b more words stop (within_or_climbs most_levels (script_slots b.script) ((front ++ w ∷ []) ++ more) words)

-- ---- a word more, whatever the depth

deepest : List Slot → ℕ
deepest [] = 0
deepest (s ∷ ss) = s.level + deepest ss

more_within : (n k : ℕ) (ss : List Slot) → n ≤ k → IsWithin n ss → IsWithin k ss
more_within n k [] l w = tt
more_within n k (s ∷ ss) l w = (omega (arith, w.0), more_within n k ss l w.1)

within_deepest : (ss : List Slot) → IsWithin (deepest ss) ss
unfolding deepest
within_deepest [] = tt
within_deepest (s ∷ ss) = (omega arith, more_within (deepest ss) (s.level + deepest ss) ss (omega arith) (within_deepest ss))

stays : (a b : Read (List Item)) (n : ℕ) → Kept a b → a ≡ Err (missed false n) → b ≡ Err (missed false n)
stays (Ok p) b n h e = cc
stays (Err miss) b n h e =
    let same : miss ≡ missed false n = cc in
    h (ap (λ m. m.deep) same) ∙ ap (λ z. Err z) same

-- a script of any depth that begins with the word that cannot stand there would be read with more levels
no_begin_any : (front : List Placed) (w : Placed) (rest : List Placed) → items_at most_levels (front ++ w ∷ rest) ≡ Err (missed false (suc (length rest))) → ¬ BeginsAny (front ++ w ∷ [])
no_begin_any front w rest e b =
    let more = fill b.more in
    let k = most_levels + deepest (script_slots b.script) in
    let low : IsWithin k (script_slots b.script) = more_within (deepest (script_slots b.script)) k (script_slots b.script) (omega arith) (within_deepest (script_slots b.script)) in
    let words : Matches (script_slots b.script) ((front ++ w ∷ []) ++ more) = subst (λ ss. Matches ss ((front ++ w ∷ []) ++ more)) (sym b.split) (matches_append b.ss b.more (front ++ w ∷ []) more b.fits (fill_fits b.more)) in
    let read : items_at k ((front ++ w ∷ []) ++ more) ≡ Ok (b.script.items, []) = ap (items_at k) (sym (append-nil ((front ++ w ∷ []) ++ more))) ∙ (items_reads k).again b.script.items ((front ++ w ∷ []) ++ more) [] b.whole low words refl in
    let stop = (items_reads most_levels).local false front w rest more e in
    let kept = stays (items_at most_levels (front ++ w ∷ more)) (items_at k (front ++ w ∷ more)) (suc (length more)) (rises_items most_levels k (omega arith) (front ++ w ∷ more)) stop in
    not_both (items_at k (front ++ w ∷ more)) (b.script.items, []) (missed false (suc (length more))) (ap (items_at k) (sym (append_assoc front (w ∷ []) more)) ∙ read) kept

-- ---- faults

begins_of : (front : List Placed) → Reaches (all_slots item_slots) (AllByRecursion WholeItem) most_levels front → Begins front
begins_of front r = record { script = record { items = r.tree }; ss = r.ss; more = r.more; split = r.split; fits = r.fits; low = r.low; whole = r.fine }

miss_is : (k : Bool) (miss : Miss) (n : ℕ) → miss.deep ≡ k → n ≡ miss.left → miss ≡ missed k n
miss_is k miss n d l = ap (λ z. missed z miss.left) d ∙ ap (missed k) (sym l)

unexpected_by : (end : ℕ) (ws : List Placed) (at : ℕ) (miss : Miss) → items_at most_levels ws ≡ Err miss → miss.deep ≡ false → place_left end ws miss.left ≡ at → IsUnexpected end ws at
unexpected_by end ws at miss e d p =
    let t = (items_reads most_levels).stuck ws miss e in
    record {
      front = t.front;
      bad = t.bad;
      whole = t.whole;
      place = sym p ∙ place_is end miss.left ws t.front t.bad t.whole t.left;
      begins = begins_of t.front t.reach;
      first = λ w rest b.
          let stop : items_at most_levels (t.front ++ w ∷ rest) ≡ Err miss = ap (items_at most_levels) (ap (λ z. t.front ++ z) (sym b) ∙ sym t.whole) ∙ e in
          no_begin_any t.front w rest (stop ∙ ap (λ z. Err z) (miss_is false miss (suc (length rest)) d (ap length (sym b) ∙ t.left)));
      unfinished = λ b script s. not_both (items_at most_levels ws) (script.items, []) miss (read_again ws script s) e;
    }

too_deep_by : (end : ℕ) (ws : List Placed) (at : ℕ) (miss : Miss) → items_at most_levels ws ≡ Err miss → miss.deep ≡ true → place_left end ws miss.left ≡ at → IsTooDeep ws at
too_deep_by end ws at miss e d p =
    let t = (items_reads most_levels).stuck ws miss e in
    let u = t.deeper d in
    record {
      front = t.front;
      w = u.w;
      rest = u.rest;
      words = t.whole ∙ ap (λ z. t.front ++ z) u.whole;
      place = sym p ∙ place_is end miss.left ws t.front t.bad t.whole t.left ∙ ap (first_place end) u.whole;
      script = record { items = u.tree };
      ss = u.ss;
      s = u.s;
      more = u.more;
      split = u.split;
      fits = u.fits;
      here = u.here;
      low = u.low;
      level = u.level;
      whole = u.fine;
      first =
          let stop : items_at most_levels (t.front ++ u.w ∷ u.rest) ≡ Err miss = ap (items_at most_levels) (ap (λ z. t.front ++ z) (sym u.whole) ∙ sym t.whole) ∙ e in
          no_begin t.front u.w u.rest (stop ∙ ap (λ z. Err z) (miss_is true miss (suc (length u.rest)) d (ap length (sym u.whole) ∙ t.left)));
    }

fault_by : (end : ℕ) (ws : List Placed) (miss : Miss) (b : Bool) → items_at most_levels ws ≡ Err miss → miss.deep ≡ b → HasFault end ws (cond b (faults.TooDeep (place_left end ws miss.left)) (faults.Unexpected (place_left end ws miss.left)))
fault_by end ws miss true e d = too_deep_by end ws (place_left end ws miss.left) miss e d refl
fault_by end ws miss false e d = unexpected_by end ws (place_left end ws miss.left) miss e d refl

has_fault : (end : ℕ) (ws : List Placed) (miss : Miss) → items_at most_levels ws ≡ Err miss → HasFault end ws (fault_of end ws miss)
has_fault end ws miss e = fault_by end ws miss miss.deep e refl

err_by : (end : ℕ) (ws : List Placed) (fault : ParseFault) (a : Read (List Item)) → items_at most_levels ws ≡ a → answer_of end ws a ≡ Err fault → HasFault end ws fault
err_by end ws fault (Ok p) e r = cc
err_by end ws fault (Err miss) e r = subst (HasFault end ws) (let same : fault_of end ws miss ≡ fault = cc in same) (has_fault end ws miss e)

pub fault_is : (end : ℕ) (ws : List Placed) (r : Result Script ParseFault) → Answers r (parsed end ws) → IfErr r (IsFault end ws)
fault_is end ws (Ok script) e = tt
fault_is end ws (Err (faults.Unexpected at)) e = err_by end ws (faults.Unexpected at) (items_at most_levels ws) refl e
fault_is end ws (Err (faults.TooDeep at)) e = err_by end ws (faults.TooDeep at) (items_at most_levels ws) refl e
fault_is end ws (Err faults.OutOfMemory) e = tt

-- ---- faulty

faulty_by : (end : ℕ) (ws : List Placed) (fault : ParseFault) → HasFault end ws fault → (a : Read (List Item)) → items_at most_levels ws ≡ a → answer_of end ws a ≡ Err fault
faulty_by end ws fault f (Ok p) e = absurd (spelled_whole end ws (record { items = p.0 }) (found_by end ws (record { items = p.0 }) (Ok p) e refl) fault f)
faulty_by end ws fault f (Err miss) e = ap (λ g. Err g) (one_fault end ws (fault_of end ws miss) fault (has_fault end ws miss e) f)

-- words that have a fault are answered with it
pub faulty_of : (end : ℕ) (ws : List Placed) (r : Result Script ParseFault) → Answers r (parsed end ws) → (fault : ParseFault) → HasFault end ws fault → Answers r (Err fault)
faulty_of end ws r e fault f = subst (Answers r) (faulty_by end ws fault f (items_at most_levels ws) refl) e

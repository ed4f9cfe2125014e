-- A text with a stamp that is too far: where it is split, and that it is no frame's.
use Rattle.std.proofs.Common.{◌≡◌, ◌≢◌, ℕ, zero, suc, pos, Bool, true, false, not, ◌&&◌, ◌==◌, ◌<◌, ◌≤◌, ◌^◌, min, List, [], ◌∷◌, ◌++◌, length, Option, Some, None, is_some, IsTrue, codes, refl, sym, ap, ap₂, ◌∙◌, subst, arith, rules, append_assoc, length-append, ◌⊎◌, inl, inr, eq-eqb}
use Rattle.std.specs.List.{All}
use Rattle.std.specs.Fmt.{decimal}
use Rattle.std.proofs.lemmas.List.{get_or_at}
use Rattle.std.proofs.lemmas.Bool.{and_parts}
use Rattle.std.proofs.lemmas.Fmt.{decimal_digit, decimal_injective, decimal_is_IsNumeral}
use Rattle.std.proofs.lemmas.List.Elements.{All-append}
use Rattle.std.proofs.lemmas.Str.Parse.{digit_from_value}
use Rattle.std.specs.Str.Parse.{AllDigits}
use Rattle.json.specs.Print.{escape_byte, quoted}
use Rattle.cv_token.specs.declared.token.Token.{the_lemmas}
use Rattle.cv_token.specs.declared.token.Token.TheVariants as tree
use Rattle.cv_token.specs.Spelling.{spelling}
use Rattle.cv_token.specs.Spells.{Spells}
use Rattle.cv_token.proofs.Levels.{spelling-Dict}
use Rattle.cv_protocol.specs.declared.frame.Frame.{Frame}
use Rattle.cv_frame.specs.Trees.{body_tree, greatest, member, number}
use Rattle.cv_frame.specs.Texts.{frame_spelling}
use Rattle.cv_frame.specs.Values.{IsFrame}
use Rattle.cv_frame.specs.Wire.{IsText, IsFarText, stamped_tree}

-- a byte does not stand in a list
abbrev pub Lacks : ℕ → List ℕ → Type 0
Lacks b xs = All (λ x. x ≢ b) xs

pub not_in : (b : ℕ) (xs ys : List ℕ) → Lacks b (xs ++ b ∷ ys) → ⊥
not_in b xs ys lacks =
    lacks (length xs) 0 (omega (arith, length-append xs (b ∷ ys))) (get_or_at xs b ys 0 (length xs) refl)

-- a list has one last place of a byte
pub one_split : (b : ℕ) (xs us ys vs : List ℕ) → Lacks b ys → Lacks b vs → xs ++ b ∷ ys ≡ us ++ b ∷ vs → (xs ≡ us) × (ys ≡ vs)
one_split b [] [] ys vs l m e = (refl, let same : ys ≡ vs = cc in same)
one_split b [] (u ∷ us) ys vs l m e = let same : ys ≡ us ++ b ∷ vs = cc in absurd (not_in b us vs (subst (Lacks b) same l))
one_split b (x ∷ xs) [] ys vs l m e = let same : xs ++ b ∷ ys ≡ vs = cc in absurd (not_in b xs ys (subst (Lacks b) (sym same) m))
one_split b (x ∷ xs) (u ∷ us) ys vs l m e =
    let first : x ≡ u = cc in
    let rest : xs ++ b ∷ ys ≡ us ++ b ∷ vs = cc in
    let both = one_split b xs us ys vs l m rest in
    (ap₂ ◌∷◌ first both.0, both.1)

-- what stands before a frame's stamp, and behind it
pub before : Frame → List ℕ
before f = 123 ∷ ((quoted (codes "body") ++ 58 ∷ spelling (body_tree f.body)) ++ 44 ∷ ((quoted (codes "from") ++ 58 ∷ spelling (number f.from)) ++ 44 ∷ quoted (codes "stamp")))

pub behind : Frame → List ℕ
behind f = (quoted (codes "to") ++ 58 ∷ spelling (number f.to)) ++ 125 ∷ []

spelling-Int : (n : ℕ) → spelling (tree.Int (pos n)) ≡ decimal n
spelling-Int n = search (rules, the_lemmas)

regroup : (b f s t d : List ℕ) → (b ++ (44 ∷ (f ++ (44 ∷ ((s ++ 58 ∷ d) ++ (44 ∷ (t ++ []))))))) ++ 125 ∷ [] ≡ ((b ++ 44 ∷ (f ++ 44 ∷ s)) ++ 58 ∷ d) ++ 44 ∷ (t ++ 125 ∷ [])
regroup b f s t d = simp append_assoc

pub told : (f : Frame) (n : ℕ) → spelling (stamped_tree f n) ≡ (before f ++ 58 ∷ decimal n) ++ 44 ∷ behind f
unfolding before behind
told f n =
    spelling-Dict (member (codes "body") (body_tree f.body) ∷ member (codes "from") (number f.from) ∷ member (codes "stamp") (tree.Int (pos n)) ∷ member (codes "to") (number f.to) ∷ [])
    ∙ ap (λ (l : List ℕ). 123 ∷ l) (regroup (quoted (codes "body") ++ 58 ∷ spelling (body_tree f.body)) (quoted (codes "from") ++ 58 ∷ spelling (number f.from)) (quoted (codes "stamp")) (quoted (codes "to") ++ 58 ∷ spelling (number f.to)) (spelling (tree.Int (pos n))))
    ∙ ap (λ (d : List ℕ). (before f ++ 58 ∷ d) ++ 44 ∷ behind f) (spelling-Int n)

-- digits are neither a colon nor a comma
lacks_numeral : (b : ℕ) (ds : List ℕ) → AllDigits 10 ds → (b < 48) ⊎ (57 < b) → Lacks b ds
lacks_numeral b [] h other k d within is = omega arith
lacks_numeral b (c ∷ cs) h other zero d within is =
    let range = digit_from_value c h.0 in elim other [ inl low ↦ omega (arith, range, is) | inr high ↦ omega (arith, range, is) ]
lacks_numeral b (c ∷ cs) h other (suc k) d within is = lacks_numeral b cs h.1 other k d (omega arith) is

pub lacks_digits : (b n : ℕ) → n < 2 ^ 64 → (b < 48) ⊎ (57 < b) → Lacks b (decimal n)
lacks_digits b n fits other = lacks_numeral b (decimal n) (decimal_is_IsNumeral n fits).0.1 other

pub no_colon : (n : ℕ) → n < 2 ^ 64 → Lacks 58 (decimal n)
no_colon n fits = lacks_digits 58 n fits (inr (omega arith))

has_no : ℕ → List ℕ → Bool
has_no b [] = true
has_no b (x ∷ xs) = not (x == b) && has_no b xs

lacks_from_test : (b : ℕ) (xs : List ℕ) → has_no b xs ≡ true → Lacks b xs
unfolding has_no
lacks_from_test b [] e k d within is = omega arith
lacks_from_test b (x ∷ xs) e zero d within is = let differ = (and_parts _ _ e).0 in let same = eq-eqb x b is in absurd (let t : false ≡ true = sym (ap not same) ∙ differ in cc)
lacks_from_test b (x ∷ xs) e (suc k) d within is = lacks_from_test b xs (and_parts _ _ e).1 k d (omega arith) is

-- no comma stands behind the stamp
pub no_comma : (f : Frame) → IsFrame f → Lacks 44 (behind f)
unfolding behind has_no escape_byte
no_comma f k =
    let digits : Lacks 44 (spelling (number f.to)) = subst (Lacks 44) (sym (spelling-Int (min f.to greatest))) (lacks_digits 44 (min f.to greatest) (omega (arith, k.to.1)) (inl (omega arith))) in
    All-append (λ (x : ℕ). x ≢ 44) (quoted (codes "to") ++ 58 ∷ spelling (number f.to)) (125 ∷ [])
    (All-append (λ (x : ℕ). x ≢ 44) (quoted (codes "to")) (58 ∷ spelling (number f.to)) (lacks_from_test 44 (quoted (codes "to")) refl)
    (All-append (λ (x : ℕ). x ≢ 44) (58 ∷ []) (spelling (number f.to)) (lacks_from_test 44 (58 ∷ []) refl) digits))
    (lacks_from_test 44 (125 ∷ []) refl)

-- where a text that is too far is split
pub far_split : (text front last : List ℕ) (k : IsFarText text) → text ≡ front ++ 44 ∷ last → Lacks 44 last → (front ≡ before k.f ++ 58 ∷ decimal k.stamp) × (last ≡ behind k.f)
far_split text front last k e lacks = one_split 44 front _ last _ lacks (no_comma k.f k.frame) (sym e ∙ k.is ∙ told k.f k.stamp)

pub text_split : (text front last : List ℕ) (k : IsText text) → text ≡ front ++ 44 ∷ last → Lacks 44 last → (front ≡ before k.f ++ 58 ∷ decimal (min k.f.stamp greatest)) × (last ≡ behind k.f)
text_split text front last k e lacks = one_split 44 front _ last _ lacks (no_comma k.f k.frame) (sym e ∙ k.is ∙ told k.f (min k.f.stamp greatest))

pub far_is_no_text : (text : List ℕ) → IsFarText text → IsText text → ⊥
far_is_no_text text far k =
    let split = text_split text _ _ k (far.is ∙ told far.f far.stamp) (no_comma far.f far.frame) in
    let digits = one_split 58 _ _ _ _ (no_colon far.stamp far.fits) (no_colon (min k.f.stamp greatest) (omega arith)) split.0 in
    let same = decimal_injective far.stamp (min k.f.stamp greatest) far.fits (omega arith) digits.1 in
    absurd (omega (arith, same, far.far, k.frame.stamp))

-- where a text that is too far is split twice
pub far_parts : (text front last head digits : List ℕ) (k : IsFarText text) → text ≡ front ++ 44 ∷ last → Lacks 44 last → front ≡ head ++ 58 ∷ digits → Lacks 58 digits → (head ≡ before k.f) × (digits ≡ decimal k.stamp) × (last ≡ behind k.f)
far_parts text front last head digits k e l f m =
    let split = far_split text front last k e l in
    let parts = one_split 58 head (before k.f) digits (decimal k.stamp) m (no_colon k.stamp k.fits) (sym f ∙ split.0) in
    (parts.0, parts.1, split.1)

zero_stamp : decimal 0 ≡ 48 ∷ []
zero_stamp = decimal_digit 0 (omega arith)

-- the same text with the stamp 0
at_stamp_0 : (f : Frame) → frame_spelling (record f { stamp = 0 }) ≡ (before f ++ 58 ∷ 48 ∷ []) ++ 44 ∷ behind f
unfolding before behind
at_stamp_0 f = told (record f { stamp = 0 }) 0 ∙ ap (λ (d : List ℕ). (before f ++ 58 ∷ d) ++ 44 ∷ behind f) zero_stamp

-- whether the text with the stamp 0 is a frame's tells whether the text is one that is too far
pub far_told : (text front last head digits near : List ℕ) (stamp : ℕ) (o : Option Frame) → text ≡ front ++ 44 ∷ last → Lacks 44 last → front ≡ head ++ 58 ∷ digits → Lacks 58 digits → digits ≡ decimal stamp → 2 ^ 62 ≤ stamp → stamp < 2 ^ 64
    → near ≡ (head ++ 58 ∷ 48 ∷ []) ++ 44 ∷ last → Spells IsFrame frame_spelling near o → (IsTrue (is_some o) → IsFarText text) × (IsFarText text → IsTrue (is_some o))
far_told text front last head digits near stamp None e l f m d far fits is none = (
  λ yes. absurd (let no : false ≡ true = yes in cc),
  λ k. let parts = far_parts text front last head digits k e l f m in
      absurd (none (record k.f { stamp = 0 }) (record { from = k.frame.from; to = k.frame.to; stamp = omega arith; body = k.frame.body })
      (is ∙ ap₂ (λ (a b : List ℕ). (a ++ 58 ∷ 48 ∷ []) ++ 44 ∷ b) parts.0 parts.2 ∙ sym (at_stamp_0 k.f))),
)
far_told text front last head digits near stamp (Some g) e l f m d far fits is found = (
  λ _.
      let split = text_split near (head ++ 58 ∷ 48 ∷ []) last (record { f = g; frame = found.0; is = found.1 }) is l in
      let parts = one_split 58 head (before g) (48 ∷ []) _ (subst (Lacks 58) zero_stamp (no_colon 0 (omega arith))) (no_colon (min g.stamp greatest) (omega arith)) split.0 in
      record {
        f = g;
        stamp = stamp;
        frame = found.0;
        far = far;
        fits = fits;
        is = e ∙ ap (λ (x : List ℕ). x ++ 44 ∷ last) f ∙ (λ i. (parts.0 i ++ 58 ∷ d i) ++ 44 ∷ split.1 i) ∙ sym (told g stamp);
      },
  λ _. refl,
)

-- Parts of tokens that fit, fit.
use Rattle.std.proofs.Common.{◌≡◌, ◌≤◌, ℕ, suc, ◌+◌, ◌==◌, Bool, true, false, if◌then◌else◌, List, [], ◌∷◌, ◌++◌, length, map, Some, refl, sym, ap, ◌∙◌, subst, arith, rules, length-append}
use Rattle.std.proofs.lemmas.Bool.{and_parts}
use Rattle.cv_token.specs.declared.pairs.Pair.{Pair}
use Rattle.cv_token.specs.declared.token.Token.{Token, the_lemmas}
use Rattle.cv_token.specs.declared.token.Token.TheOpen.{Token-F}
use Rattle.cv_token.specs.declared.token.Token.TheVariants as token
use Rattle.cv_token.specs.declared.token.Token.TheViews.{out-Token, roll-Token, out-roll-Token, roll-out-Token, rolls-List}
use Rattle.cv_token.specs.Forms.{on_values}
use Rattle.cv_token.specs.Shape.{depth, is_token, all_true, all_members, greatest, greatest_value}
use Rattle.cv_token.specs.Spelling.{spelling, behind_commas, members}
use Rattle.cv_token.proofs.Levels.{is_token-Dict, length-spelling-List, length-spelling-Dict}
use Rattle.cv_behave.specs.Values.{all_fit, has_fit, list_of, list_step}
use Rattle.cv_behave.proofs.Fitting.{both, depth-Null, from_bounds, bounds_of, null_fits, spelling-Null}

-- ---- one level down

token-List : (ts : List Token) → is_token (token.List ts) ≡ all_true (map is_token ts)
token-List ts = search (rules, the_lemmas)

depth-List : (ts : List Token) → depth (token.List ts) ≡ suc (greatest (map depth ts))
depth-List ts = search (rules, the_lemmas)

depth-Dict : (ps : List (Pair Token)) → depth (token.Dict ps) ≡ suc (greatest_value (on_values depth ps))
depth-Dict ps = search (rules, the_lemmas)

two_or_one : (b : Bool) → ((if b then 2 else 1) ≤ 2) × (1 ≤ (if b then 2 else 1))
two_or_one true = (omega arith, omega arith)
two_or_one false = (omega arith, omega arith)

-- what the items of a List are where it fits: tokens, none too deep, with few bytes in all
pub record Within (room : ℕ) (ts : List Token) : Type 0 where
  pub tokens : all_true (map is_token ts) ≡ true
  pub shallow : suc (greatest (map depth ts)) ≤ 16
  pub short : length (behind_commas (map spelling ts)) ≤ room

within : (ts : List Token) → has_fit (token.List ts) ≡ true → Within 1023 ts
within ts e =
    let f = bounds_of (token.List ts) e in
    let l = length-spelling-List ts in
    let b = two_or_one (length ts == 0) in
    record {
      tokens = sym (token-List ts) ∙ f.token;
      shallow = subst (λ (n : ℕ). n ≤ 16) (depth-List ts) f.shallow;
      short = omega (arith, l, b, f.short);
    }

length-behind : (s : List ℕ) (ss : List (List ℕ)) → length (behind_commas (s ∷ ss)) ≡ suc (length s + length (behind_commas ss))
length-behind s ss = ap suc (length-append s (behind_commas ss))

-- the first item and those behind it
rest_within : (room : ℕ) (t : Token) (ts : List Token) → Within (suc room) (t ∷ ts) → Within room ts
rest_within room t ts w = record {
  tokens = (and_parts _ _ w.tokens).1;
  shallow = omega (arith, w.shallow);
  short = omega (arith, w.short, length-behind (spelling t) (map spelling ts));
}

first_within : (room : ℕ) (t : Token) (ts : List Token) → Within room (t ∷ ts) → room ≤ 1024 → has_fit t ≡ true
first_within room t ts w r = from_bounds t (record {
  token = (and_parts _ _ w.tokens).0;
  shallow = omega (arith, w.shallow);
  short = omega (arith, w.short, length-behind (spelling t) (map spelling ts));
})

wider : (room more : ℕ) (ts : List Token) → room ≤ more → Within room ts → Within more ts
wider room more ts l w = record { tokens = w.tokens; shallow = w.shallow; short = omega (arith, w.short) }

all_within : (ts : List Token) → Within 1023 ts → all_fit ts ≡ true
all_within [] w = refl
all_within (t ∷ ts) w = both (has_fit t) (all_fit ts) (first_within 1023 t ts w (omega arith)) (all_within ts (wider 1022 1023 ts (omega arith) (rest_within 1022 t ts w)))

-- ---- lists

pub items_fit : (ts : List Token) → has_fit (token.List ts) ≡ true → all_fit ts ≡ true
items_fit ts e = all_within ts (within ts e)

list_fits : (ts : List Token) → Within 1022 ts → has_fit (token.List ts) ≡ true
list_fits ts w =
    let l = length-spelling-List ts in
    let b = two_or_one (length ts == 0) in
    from_bounds (token.List ts) (record {
      token = token-List ts ∙ w.tokens;
      shallow = subst (λ (n : ℕ). n ≤ 16) (sym (depth-List ts)) w.shallow;
      short = omega (arith, l, b, w.short);
    })

-- without its first item
pub tail_fits : (t : Token) (ts : List Token) → has_fit (token.List (t ∷ ts)) ≡ true → has_fit (token.List ts) ≡ true
tail_fits t ts e = list_fits ts (rest_within 1022 t ts (within (t ∷ ts) e))

nothing_within : Within 1022 []
nothing_within = record { tokens = refl; shallow = omega arith; short = omega arith }

pub empty_fits : has_fit (token.List []) ≡ true
empty_fits = list_fits [] nothing_within

null_within : Within 1022 (token.Null ∷ [])
null_within = record {
  tokens = both (is_token token.Null) true (bounds_of token.Null null_fits).token refl;
  shallow = omega (arith, depth-Null);
  short = omega (arith, length-behind (spelling token.Null) [], ap length spelling-Null);
}

pub null_list_fits : has_fit (token.List (token.Null ∷ [])) ≡ true
null_list_fits = list_fits (token.Null ∷ []) null_within

at_least : (ts : List Token) → length ts ≤ length (behind_commas (map spelling ts))
at_least [] = omega arith
at_least (t ∷ ts) = omega (arith, length-behind (spelling t) (map spelling ts), at_least ts)

pub few_items : (ts : List Token) → has_fit (token.List ts) ≡ true → length ts ≤ 1023
few_items ts e = let w = within ts e in omega (arith, w.short, at_least ts)

-- ---- a token that is a List

listed : (x : Token-F Token) (ts : List Token) → list_step x ≡ Some ts → roll-Token x ≡ token.List ts
listed Token-F.Null ts e = cc
listed (Token-F.Bool b) ts e = cc
listed (Token-F.Int z) ts e = cc
listed (Token-F.Text s) ts e = cc
listed (Token-F.List us) ts e = let same : us ≡ ts = cc in ap roll-Token (ap Token-F.List same) ∙ rolls-List ts
listed (Token-F.Dict ps) ts e = cc

pub is_List : (t : Token) (ts : List Token) → list_of t ≡ Some ts → t ≡ token.List ts
is_List t ts e = sym (roll-out-Token t) ∙ listed (out-Token t) ts e

pub listed_fits : (t : Token) (ts : List Token) → list_of t ≡ Some ts → has_fit t ≡ true → has_fit (token.List ts) ≡ true
listed_fits t ts e f = subst (λ (x : Token). has_fit x ≡ true) (is_List t ts e) f

-- the items of a token that fits, fit
pub parts_fit : (t : Token) (ts : List Token) → has_fit t ≡ true → list_of t ≡ Some ts → all_fit ts ≡ true
parts_fit t ts e is = items_fit ts (listed_fits t ts is e)

pub list_of_List : (ts : List Token) → list_of (token.List ts) ≡ Some ts
list_of_List ts = ap list_step (ap out-Token (sym (rolls-List ts)) ∙ out-roll-Token (Token-F.List ts))

-- ---- dictionaries

token-Dict : (ps : List (Pair Token)) → has_fit (token.Dict ps) ≡ true → all_members (on_values is_token ps) ≡ true
token-Dict ps e = (and_parts _ _ (sym (is_token-Dict ps) ∙ (bounds_of (token.Dict ps) e).token)).1

longer : (q v b : List ℕ) → length v + length b ≤ length (44 ∷ ((q ++ 58 ∷ v) ++ b))
longer q v b = omega (arith, length-append (q ++ 58 ∷ v) b, length-append q (58 ∷ v))

-- what the pairs of a Dict are where it fits
pub record PairsWithin (ps : List (Pair Token)) : Type 0 where
  pub tokens : all_members (on_values is_token ps) ≡ true
  pub shallow : suc (greatest_value (on_values depth ps)) ≤ 16
  pub short : length (behind_commas (members (on_values spelling ps))) ≤ 1024

pub pairs_within : (ps : List (Pair Token)) → has_fit (token.Dict ps) ≡ true → PairsWithin ps
pairs_within ps e =
    let f = bounds_of (token.Dict ps) e in
    let l = length-spelling-Dict ps in
    let b = two_or_one (length ps == 0) in
    record {
      tokens = token-Dict ps e;
      shallow = subst (λ (n : ℕ). n ≤ 16) (depth-Dict ps) f.shallow;
      short = omega (arith, l, b, f.short);
    }

pub value_fits : (p : Pair Token) (ps : List (Pair Token)) → PairsWithin (p ∷ ps) → has_fit p.value ≡ true
value_fits p ps w =
    let l : length (spelling p.value) + length (behind_commas (members (on_values spelling ps))) ≤ length (behind_commas (members (on_values spelling (p ∷ ps)))) = search longer in
    from_bounds p.value (record { token = (and_parts _ _ (and_parts _ _ w.tokens).1).0; shallow = omega (arith, w.shallow); short = omega (arith, w.short, l) })

pub other_pairs : (p : Pair Token) (ps : List (Pair Token)) → PairsWithin (p ∷ ps) → PairsWithin ps
other_pairs p ps w =
    let l : length (spelling p.value) + length (behind_commas (members (on_values spelling ps))) ≤ length (behind_commas (members (on_values spelling (p ∷ ps)))) = search longer in
    record { tokens = (and_parts _ _ (and_parts _ _ w.tokens).1).1; shallow = omega (arith, w.shallow); short = omega (arith, w.short, l) }

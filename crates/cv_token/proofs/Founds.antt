-- A token that was found in a JSON value nests as deep as the value.
use Rattle.std.proofs.Common.{◌≡◌, ℕ, suc, max, ℤ, Bool, List, ◌∷◌, Option, Some, None, option_map, option_and_then, map, refl, sym, ap, ap₂, ◌∙◌, rules}
use Rattle.serde_json.specs.Data.{Data, null, boolean, number, string, array, object, Items, no_items, item, Members, no_members, member, depth as data_depth, items_depth, members_depth}
use Rattle.serde_json.specs.Find.{as_i64}
use Rattle.cv_token.specs.declared.pairs.Pair.{Pair}
use Rattle.cv_token.specs.declared.token.Token.{Token, the_lemmas}
use Rattle.cv_token.specs.declared.token.Token.TheVariants as variants
use Rattle.cv_token.specs.Forms.{token_of, tokens_of, pairs_of, on_values}
use Rattle.cv_token.specs.Shape.{depth, greatest, greatest_value}

-- the value under a function, where there is one
under : {A B : Type 0} → (f : A → B) (o : Option A) (b : B) → option_map f o ≡ Some b → (a : A) × (o ≡ Some a) × (b ≡ f a)
under f None b e = cc
under f (Some a) b e = let same : f a ≡ b = cc in (a, refl, sym same)

-- the parts of a first item
first : {A B C : Type 0} → (f : A → B → C) (o : Option A) (p : Option B) (c : C) → option_and_then (λ a. option_map (f a) p) o ≡ Some c → (a : A) × (b : B) × (o ≡ Some a) × (p ≡ Some b) × (c ≡ f a b)
first f None p c e = cc
first f (Some a) p c e = let h = under (f a) p c e in (a, h.0, refl, h.1, h.2)

depth-List : (ts : List Token) → depth (variants.List ts) ≡ suc (greatest (map depth ts))
depth-List ts = search (rules, the_lemmas)

depth-Dict : (ps : List (Pair Token)) → depth (variants.Dict ps) ≡ suc (greatest_value (on_values depth ps))
depth-Dict ps = search (rules, the_lemmas)

depth-Null : depth variants.Null ≡ 0
depth-Null = search (rules, the_lemmas)

depth-Bool : (b : Bool) → depth (variants.Bool b) ≡ 0
depth-Bool b = search (rules, the_lemmas)

depth-Int : (n : ℤ) → depth (variants.Int n) ≡ 0
depth-Int n = search (rules, the_lemmas)

depth-Text : (s : List ℕ) → depth (variants.Text s) ≡ 0
depth-Text s = search (rules, the_lemmas)

some : {A : Type 0} (a b : A) → Some a ≡ Some b → b ≡ a
some a b e = cc

mutual
  pub depth-token_of : (d : Data) (t : Token) → token_of d ≡ Some t → depth t ≡ data_depth d
  depth-token_of null t e = ap depth (some _ t e) ∙ depth-Null
  depth-token_of (boolean b) t e = ap depth (some _ t e) ∙ depth-Bool b
  depth-token_of (number n) t e = let h = under variants.Int (as_i64 n) t e in ap depth h.2 ∙ depth-Int h.0
  depth-token_of (string s) t e = ap depth (some _ t e) ∙ depth-Text s
  depth-token_of (array ds) t e = let h = under variants.List (tokens_of ds) t e in ap depth h.2 ∙ depth-List h.0 ∙ ap suc (greatest-tokens_of ds h.0 h.1)
  depth-token_of (object ms) t e = let h = under variants.Dict (pairs_of ms) t e in ap depth h.2 ∙ depth-Dict h.0 ∙ ap suc (greatest-pairs_of ms h.0 h.1)

  greatest-tokens_of : (ds : Items) (ts : List Token) → tokens_of ds ≡ Some ts → greatest (map depth ts) ≡ items_depth ds
  greatest-tokens_of no_items ts e = ap (λ ts. greatest (map depth ts)) (some _ ts e)
  greatest-tokens_of (item d ds) ts e =
      let h = first (λ t ts. t ∷ ts) (token_of d) (tokens_of ds) ts e in
      ap (λ ts. greatest (map depth ts)) h.4 ∙ ap₂ max (depth-token_of d h.0 h.2) (greatest-tokens_of ds h.1 h.3)

  greatest-pairs_of : (ms : Members) (ps : List (Pair Token)) → pairs_of ms ≡ Some ps → greatest_value (on_values depth ps) ≡ members_depth ms
  greatest-pairs_of no_members ps e = ap (λ ps. greatest_value (on_values depth ps)) (some _ ps e)
  greatest-pairs_of (member k d ms) ps e =
      let add : Token → List (Pair Token) → List (Pair Token) = λ t ps. record { key = k; value = t } ∷ ps in
      let h = first add (token_of d) (pairs_of ms) ps e in
      ap (λ ps. greatest_value (on_values depth ps)) h.4 ∙ ap₂ max (depth-token_of d h.0 h.2) (greatest-pairs_of ms h.1 h.3)

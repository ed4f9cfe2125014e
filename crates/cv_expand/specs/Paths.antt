-- Paths as texts.
use Rattle.std.specs.Prelude.{◌≡◌, ℕ, ◌<◌, ◌^◌, List, [], ◌∷◌, ◌++◌, codes}
use Rattle.std.specs.Fmt.{decimal}
use Rattle.std.specs.List.{AllByRecursion}
use Rattle.cv_lex.specs.Shapes.{IsName}
use Rattle.cv_expand.specs.declared.path.Step.{Step}
use Rattle.cv_expand.specs.declared.path.Step.TheVariants as steps

-- a name, or `#` and a number
abbrev pub step_text : Step → List ℕ
step_text (steps.Name name) = name
step_text (steps.Constant number) = codes "#" ++ decimal number

-- each step behind a `/`
abbrev pub rest_text : List Step → List ℕ
rest_text [] = []
rest_text (step ∷ path) = codes "/" ++ step_text step ++ rest_text path

-- the steps, with a `/` between each two
abbrev pub path_text : List Step → List ℕ
path_text [] = []
path_text (step ∷ path) = step_text step ++ rest_text path

-- the letters of a name, or a number of 64 bits
abbrev pub IsStep : Step → Type 0
IsStep (steps.Name name) = IsName name
IsStep (steps.Constant number) = number < 2 ^ 64

abbrev pub IsPath : List Step → Type 0
IsPath path = AllByRecursion IsStep path

-- paths of one text are one path
abbrev pub OnePath : Type 0
OnePath = (a b : List Step) → IsPath a → IsPath b → path_text a ≡ path_text b → a ≡ b

-- The script that `gen N` prints: N chains of a timer, an identity, a sum, a sieve and a print, each of nine lines.
use Rattle.std.specs.Prelude.{ℕ, suc, zero, List, [], ◌++◌, codes}
use Rattle.std.specs.Fmt.{decimal}
use Rattle.cv_top.specs.Causes.{with_feed}

-- a declaration of a chain by its number's digits: `NAMEi : KIND`
unfoldable pub declaration : List ℕ → List ℕ → List ℕ → List ℕ
declaration number name kind = with_feed (name ++ number ++ codes " : " ++ kind)

-- a port of an actor of a chain: `NAMEi.PORT`
abbrev pub port_of : List ℕ → List ℕ → List ℕ → List ℕ
port_of number name port = name ++ number ++ codes "." ++ port

-- a join within a chain: `FROMi.OUT > TOi.INP`
unfoldable pub join : List ℕ → List ℕ → List ℕ → List ℕ → List ℕ → List ℕ
join number from out to inp = with_feed (port_of number from out ++ codes " > " ++ port_of number to inp)

-- a chain's timer counts from the chain's number
unfoldable pub timer : List ℕ → List ℕ
timer number = codes "std.CountTimer(sleep=0.01, start=" ++ number ++ codes ", steps=40)"

-- the five declarations of a chain
unfoldable pub declarations : List ℕ → List ℕ
declarations number =
    declaration number (codes "src") (timer number)
    ++ declaration number (codes "mid") (codes "std.Identity()")
    ++ declaration number (codes "sum") (codes "std.Sum()")
    ++ declaration number (codes "pick") (codes "flow.Every(n=10)")
    ++ declaration number (codes "snk") (codes "io.Print()")

-- the four joins of a chain
unfoldable pub joins : List ℕ → List ℕ
joins number =
    join number (codes "src") (codes "integer") (codes "mid") (codes "token")
    ++ join number (codes "mid") (codes "token") (codes "sum") (codes "integer")
    ++ join number (codes "sum") (codes "integer") (codes "pick") (codes "token")
    ++ join number (codes "pick") (codes "token") (codes "snk") (codes "token")

-- the nine lines of a chain
abbrev pub chain : List ℕ → List ℕ
chain number = declarations number ++ joins number

-- the chains from 1 to n
abbrev pub generated_script : ℕ → List ℕ
generated_script zero = []
generated_script (suc n) = generated_script n ++ chain (decimal (suc n))

-- What a cursor holds of the tokens that are left: the next of them, and the bytes behind it.
use Rattle.std.specs.Prelude.{◌≡◌, ℕ, ◌^◌, ◌<◌, ◌≤◌, false, List, [], ◌∷◌, length, drop}
use Rattle.sv_text.specs.declared.fault.TextCause.TheVariants as causes
use Rattle.sv_text.specs.declared.token.Token.TheVariants as tokens
use Rattle.sv_text.specs.declared.token.Lexeme.{Lexeme}
use Rattle.sv_text.specs.declared.token.Left.{Left}
use Rattle.sv_text.specs.declared.token.Left.TheVariants as lefts
use Rattle.sv_text.specs.declared.token.Ahead.{Ahead}
use Rattle.sv_text.specs.Tokens.{is_joint, tokens_from}

-- Behind the end of a text stands a token that is refused wherever it stands.
abbrev pub nothing : Lexeme
nothing = record { place = 0; glued = false; token = tokens.Bad causes.Expected }

abbrev pub nothing_ahead : Ahead
nothing_ahead = record { next = nothing; end = 0; left = lefts.Nothing }

abbrev pub next_of : List Lexeme → Lexeme
next_of [] = nothing
next_of (t ∷ ts) = t

-- the tokens that are left, where t is the next of them and ts stand behind it
abbrev pub left_of : Left → Lexeme → List Lexeme → List Lexeme
left_of lefts.Tokens t ts = t ∷ ts
left_of lefts.End t ts = t ∷ []
left_of lefts.Nothing t ts = []

unfoldable pub held : List ℕ → Ahead → List Lexeme
held bs a = left_of a.left a.next (tokens_from 0 a.end (is_joint a.next.token) (drop a.end bs))

abbrev pub IsNext : Left → Lexeme → Type 0
IsNext lefts.Tokens t = Unit {0}
IsNext lefts.End t = Unit {0}
IsNext lefts.Nothing t = t ≡ nothing

pub record IsAhead (bs : List ℕ) (a : Ahead) : Type 0 where
  pub few : length bs < 2 ^ 32
  pub within : a.end ≤ length bs
  pub next : IsNext a.left a.next

-- Which top call words are for.
use Rattle.std.specs.Prelude.{ℕ, List, [], ◌∷◌, Bool, ◌||◌, codes, if◌then◌else◌}
use Rattle.std.specs.Str.{bytes_eq}
use Rattle.sv_main.specs.declared.commands.TopCall.{TopCall}
use Rattle.sv_main.specs.declared.commands.TopCall.TheVariants as commands

-- `check`, `why` and `world` have one call.
abbrev pub is_check : List ℕ → Bool
is_check word = bytes_eq word (codes "check") || (bytes_eq word (codes "why") || bytes_eq word (codes "world"))

-- `looks`, `witness`, `serve`, `host`, `join`, and `check` with `why` and `world`, have calls of their own, and all other first words are for `run`.
abbrev pub call_of : List ℕ → TopCall
call_of word = if bytes_eq word (codes "looks") then commands.Looks
    else (if bytes_eq word (codes "witness") then commands.Witness
    else (if bytes_eq word (codes "serve") then commands.Serve
    else (if bytes_eq word (codes "host") then commands.Host
    else (if bytes_eq word (codes "join") then commands.Join
    else (if is_check word then commands.Check else commands.Run)))))

-- The call that words are for, by the first of them. No words are for `run`.
abbrev pub command_of : List (List ℕ) → TopCall
command_of [] = commands.Run
command_of (word ∷ words) = call_of word

-- What a word has behind a line that grows.
use Rattle.std.proofs.Common.{◌≡◌, ◌⊎◌, inl, inr, ℕ, ◌==◌, Bool, true, false, List, [], ◌∷◌, ◌++◌, Option, Some, None, cond, if◌then◌else◌, ◌||◌, option_and_then, refl, sym, ap, subst, ◌∙◌, codes}
use Rattle.std.specs.Str.{bytes_eq}
use Rattle.std.specs.Option.{option_copied}
use Rattle.std.specs.Bool.{one_answer}
use Rattle.std.proofs.lemmas.Bool.{true≢false, eqb-true, eq-eqb}
use Rattle.std.proofs.lemmas.Slice.Eq.{bytes_eq-Decides}
use Rattle.std.specs.Prelude.{MatchBool}
use Rattle.sv_ports.specs.Traffic.{Traffic, nothing_told}
use Rattle.sv_host.specs.Inputs.{IsAtLine, IsReadTo, WasToldToStop, behind, has_stop, is_nothing, unended}
use Rattle.sv_host.specs.Rooms.{LeftInput}
use Rattle.sv_host.specs.declared.input.InputLines.{InputLines}

-- One byte more of the line.
pub behind_more : (line word : List ℕ) (byte : ℕ) → behind (line ++ byte ∷ []) word ≡ option_and_then (behind (byte ∷ [])) (behind line word)
behind_more [] word byte = refl
behind_more (b ∷ line) [] byte = refl
behind_more (b ∷ line) (c ∷ word) byte = go (b == c) (behind_more line word byte)
  where
    go : (same : Bool) → behind (line ++ byte ∷ []) word ≡ option_and_then (behind (byte ∷ [])) (behind line word)
        → cond same (behind (line ++ byte ∷ []) word) None ≡ option_and_then (behind (byte ∷ [])) (cond same (behind line word) None)
    go true e = e
    go false e = refl

none_behind : (line word : List ℕ) → is_nothing (behind line word) ≡ true → line ≡ word
none_behind [] [] e = refl
none_behind [] (c ∷ word) e = absurd (true≢false (sym e))
none_behind (b ∷ line) [] e = absurd (true≢false (sym e))
none_behind (b ∷ line) (c ∷ word) e = go (b == c) (eqb-true b c) (none_behind line word) e
  where
    go : (same : Bool) → (same ≡ true → b ≡ c) → (is_nothing (behind line word) ≡ true → line ≡ word)
        → is_nothing (cond same (behind line word) None) ≡ true → b ∷ line ≡ c ∷ word
    go true is rest e = ap (λ (x : ℕ). x ∷ line) (is refl) ∙ ap (λ (xs : List ℕ). c ∷ xs) (rest e)
    go false is rest e = absurd (true≢false (sym e))

all_behind : (word : List ℕ) → is_nothing (behind word word) ≡ true
all_behind [] = refl
all_behind (c ∷ word) = rw (eq-eqb c c refl) (all_behind word)

-- Nothing of a word is behind a line just where they are the same.
pub whole_line : (line word : List ℕ) → is_nothing (behind line word) ≡ bytes_eq line word
whole_line line word = one_answer (is_nothing (behind line word)) (bytes_eq line word)
    (none_behind line word, λ e. subst (λ (w : List ℕ). is_nothing (behind line w) ≡ true) e (all_behind line)) (bytes_eq-Decides line word)

pub at_more : (input next : InputLines) (line : List ℕ) (byte : ℕ) → option_copied next.wanted ≡ option_and_then (behind (byte ∷ [])) (option_copied input.wanted)
    → IsAtLine input line → IsAtLine next (line ++ byte ∷ [])
at_more input next line byte e at = record { wanted_is = e ∙ ap (option_and_then (behind (byte ∷ []))) at.wanted_is ∙ sym (behind_more line (codes "stop") byte) }

pub at_whole : (input : InputLines) (line : List ℕ) → IsAtLine input line → is_nothing (option_copied input.wanted) ≡ bytes_eq line (codes "stop")
at_whole input line at = ap is_nothing at.wanted_is ∙ whole_line line (codes "stop")

-- What a line and the bytes behind it say is what these say: the line that is not ended now, and the bytes that are left.
pub record Gone (line : List ℕ) (now : InputLines) (bytes rest : List ℕ) : Type 0 where
  pub place : List ℕ
  pub at : IsAtLine now place
  pub stops : has_stop line bytes ≡ has_stop place rest
  pub line_is : unended line bytes ≡ unended place rest

pub gone_none : (line : List ℕ) (input : InputLines) (bytes : List ℕ) → IsAtLine input line → Gone line input bytes bytes
gone_none line input bytes at = record { place = line; at = at; stops = refl; line_is = refl }

-- what a byte is taken as, at any line
abbrev pub Takes : InputLines → InputLines → ℕ → Bool → Type 0
Takes input next byte stops = (line : List ℕ) → IsAtLine input line
    → (stops ≡ (if byte == 10 then bytes_eq line (codes "stop") else false)) × IsAtLine next (if byte == 10 then [] else line ++ byte ∷ [])

pub gone_on : (line : List ℕ) (input next : InputLines) (bytes : List ℕ) (byte : ℕ) (rest : List ℕ) → Takes input next byte false
    → Gone line input bytes (byte ∷ rest) → Gone line next bytes rest
gone_on line input next bytes byte rest takes gone = go (byte == 10) (takes gone.place gone.at).0 (takes gone.place gone.at).1 gone.stops gone.line_is
  where
    go : (is_end : Bool) → false ≡ (if is_end then bytes_eq gone.place (codes "stop") else false) → IsAtLine next (if is_end then [] else gone.place ++ byte ∷ [])
        → has_stop line bytes ≡ (if is_end then bytes_eq gone.place (codes "stop") || has_stop [] rest else has_stop (gone.place ++ byte ∷ []) rest)
        → unended line bytes ≡ (if is_end then unended [] rest else unended (gone.place ++ byte ∷ []) rest)
        → Gone line next bytes rest
    go true none at stops line_is = record { place = []; at = at; stops = stops ∙ ap (λ (t : Bool). t || has_stop [] rest) (sym none); line_is = line_is }
    go false none at stops line_is = record { place = gone.place ++ byte ∷ []; at = at; stops = stops; line_is = line_is }

pub gone_stop : (line : List ℕ) (input next : InputLines) (bytes : List ℕ) (byte : ℕ) (rest : List ℕ) → Takes input next byte true
    → Gone line input bytes (byte ∷ rest) → true ≡ has_stop line bytes
gone_stop line input next bytes byte rest takes gone = go (byte == 10) (takes gone.place gone.at).0 gone.stops
  where
    go : (is_end : Bool) → true ≡ (if is_end then bytes_eq gone.place (codes "stop") else false)
        → has_stop line bytes ≡ (if is_end then bytes_eq gone.place (codes "stop") || has_stop [] rest else has_stop (gone.place ++ byte ∷ []) rest)
        → true ≡ has_stop line bytes
    go true is stops = sym (stops ∙ ap (λ (t : Bool). t || has_stop [] rest) (sym is))
    go false is stops = absurd (true≢false is)

-- ---- The whole input

or_assoc : (a b c : Bool) → (a || (b || c)) ≡ ((a || b) || c)
or_assoc true b c = refl
or_assoc false b c = refl

or_late : (a b : Bool) → b ≡ true → (a || b) ≡ true
or_late true b e = refl
or_late false b e = e

-- More of the input came.
stop_more : (line front more : List ℕ) → has_stop line (front ++ more) ≡ (has_stop line front || has_stop (unended line front) more)
stop_more line [] more = refl
stop_more line (byte ∷ front) more = go (byte == 10) (stop_more [] front more) (stop_more (line ++ byte ∷ []) front more)
  where
    go : (ends : Bool) → has_stop [] (front ++ more) ≡ (has_stop [] front || has_stop (unended [] front) more)
        → has_stop (line ++ byte ∷ []) (front ++ more) ≡ (has_stop (line ++ byte ∷ []) front || has_stop (unended (line ++ byte ∷ []) front) more)
        → (if ends then bytes_eq line (codes "stop") || has_stop [] (front ++ more) else has_stop (line ++ byte ∷ []) (front ++ more))
        ≡ ((if ends then bytes_eq line (codes "stop") || has_stop [] front else has_stop (line ++ byte ∷ []) front)
        || has_stop (if ends then unended [] front else unended (line ++ byte ∷ []) front) more)
    go true next same = ap (λ (b : Bool). bytes_eq line (codes "stop") || b) next
        ∙ or_assoc (bytes_eq line (codes "stop")) (has_stop [] front) (has_stop (unended [] front) more)
    go false next same = same

unended_more : (line front more : List ℕ) → unended line (front ++ more) ≡ unended (unended line front) more
unended_more line [] more = refl
unended_more line (byte ∷ front) more = go (byte == 10) (unended_more [] front more) (unended_more (line ++ byte ∷ []) front more)
  where
    go : (ends : Bool) → unended [] (front ++ more) ≡ unended (unended [] front) more
        → unended (line ++ byte ∷ []) (front ++ more) ≡ unended (unended (line ++ byte ∷ []) front) more
        → (if ends then unended [] (front ++ more) else unended (line ++ byte ∷ []) (front ++ more))
        ≡ unended (if ends then unended [] front else unended (line ++ byte ∷ []) front) more
    go true next same = next
    go false next same = same

pub read_on : (old new : Traffic) (piece : List ℕ) (input next : InputLines) (stops : Bool)
    → ((line : List ℕ) → IsAtLine input line → stops ≡ has_stop line piece)
    → ((line : List ℕ) → IsAtLine input line → stops ≡ false → IsAtLine next (unended line piece))
    → new.input ≡ old.input ++ piece → IsReadTo old input → MatchBool stops (WasToldToStop new) (IsReadTo new next)
read_on old new piece input next true stop at more read = inr (
    ap (has_stop []) more ∙ stop_more [] old.input piece ∙ or_late (has_stop [] old.input) (has_stop (unended [] old.input) piece) (sym (stop (unended [] old.input) read))
    )
read_on old new piece input next false stop at more read =
    subst (λ (line : List ℕ). IsAtLine next line) (sym (ap (unended []) more ∙ unended_more [] old.input piece)) (at (unended [] old.input) read refl)

pub match_true : {A : Type 0} (B : Type 0) (b : Bool) → b ≡ true → MatchBool b A B → A
match_true B true is m = m
match_true B false is m = absurd (true≢false (sym is))

pub match_false : {B : Type 0} (A : Type 0) (b : Bool) → b ≡ false → MatchBool b A B → B
match_false A true is m = absurd (true≢false is)
match_false A false is m = m

-- Nothing was read yet.
pub read_nothing : (told : Traffic) (input : InputLines) → IsAtLine input [] → told ≡ nothing_told → IsReadTo told input
read_nothing told input at fresh = subst (λ (t : Traffic). IsReadTo t input) (sym fresh) at

pub read_as : (old new : Traffic) (input : InputLines) → LeftInput old new → IsReadTo old input → IsReadTo new input
read_as old new input left read = subst (λ (bytes : List ℕ). IsAtLine input (unended [] bytes)) (sym left.input) read

pub told_as : (old new : Traffic) → LeftInput old new → WasToldToStop old → WasToldToStop new
told_as old new left (inl ended) = inl (left.ended ∙ ended)
told_as old new left (inr stops) = inr (ap (has_stop []) left.input ∙ stops)

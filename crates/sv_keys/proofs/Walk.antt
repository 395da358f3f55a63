-- A walk over the lines of a text.
use Rattle.std.proofs.lemmas.Bool.{true≢false, eqb-true}
use Rattle.std.proofs.Common.{◌≡◌, ◌==◌, Bool, true, false, ℕ, zero, suc, ◌+◌, ◌<◌, ◌≤◌, List, [], ◌∷◌, ◌++◌, length, Option, Some, None, refl, subst, sym, append_assoc, arith, append-nil, zero-add}
use Rattle.sv_keys.specs.Cuts.{before, behind}
use Rattle.sv_keys.specs.KeyLines.{Says, AreKeys, IsWrongAt}
use Rattle.sv_keys.specs.declared.line.KeyRow.{KeyRow}

-- The keys so far and those that are left are all, and a wrong line that is left is one of all.
pub record IsWalk (bytes rest : List ℕ) (rows : List KeyRow) (number : ℕ) : Type 0 where
  pub keys : (more : List KeyRow) → AreKeys rest more → AreKeys bytes (rows ++ more)
  pub wrong : (n : ℕ) → IsWrongAt rest n → IsWrongAt bytes (number + n)
  pub count : number + length rest ≤ length bytes

pub walk_begins : (bytes : List ℕ) → IsWalk bytes bytes [] 0
walk_begins bytes = record { keys = λ more h. h; wrong = λ n h. rw (zero-add n) h; count = omega arith }

pub walk_ends : {bytes : List ℕ} {rows : List KeyRow} {number : ℕ} → IsWalk bytes [] rows number → AreKeys bytes rows
walk_ends {bytes} {rows} w = subst (λ (all : List KeyRow). AreKeys bytes all) (append-nil rows) (w.keys [] AreKeys.none)

module _ {bytes rest : List ℕ} {rows : List KeyRow} {number : ℕ} (w : IsWalk bytes rest rows number) (line more : List ℕ)
    (first : line ≡ before 10 rest) (left : more ≡ behind 10 rest) where
  said : (key : Option KeyRow) → Says line key → Says (before 10 rest) key
  said key = subst (λ (xs : List ℕ). Says xs key) first

  pub walk_blank : Says line None → length more < length rest → IsWalk bytes more rows (number + 1)
  walk_blank says less = record {
    keys = λ others h. w.keys others (AreKeys.blank (said None says) (subst (λ (xs : List ℕ). AreKeys xs others) left h));
    wrong = λ n h. let e : number + 1 + n ≡ number + suc n = omega arith in rw e (w.wrong (suc n) (IsWrongAt.later None (said None says) (subst (λ (xs : List ℕ). IsWrongAt xs n) left h)));
    count = let c = w.count in omega (arith, c, less);
  }

  pub walk_key : (row : KeyRow) → Says line (Some row) → length more < length rest → IsWalk bytes more (rows ++ row ∷ []) (number + 1)
  walk_key row says less = record {
    keys = λ others h. rw (append_assoc rows (row ∷ []) others) (w.keys (row ∷ others) (AreKeys.key (said (Some row) says) (subst (λ (xs : List ℕ). AreKeys xs others) left h)));
    wrong = λ n h. let e : number + 1 + n ≡ number + suc n = omega arith in rw e (w.wrong (suc n) (IsWrongAt.later (Some row) (said (Some row) says) (subst (λ (xs : List ℕ). IsWrongAt xs n) left h)));
    count = let c = w.count in omega (arith, c, less);
  }

  pub walk_wrong : ((key : Option KeyRow) → ¬ Says line key) → IsWrongAt bytes (number + 1)
  walk_wrong never = w.wrong 1 (IsWrongAt.here (λ key h. never key (subst (λ (xs : List ℕ). Says xs key) (sym first) h)))

pub some_left : (n : ℕ) → false ≡ (n == 0) → 0 < n
some_left zero e = absurd (true≢false (sym e))
some_left (suc n) e = omega arith

pub none_left : (xs : List ℕ) → true ≡ (length xs == 0) → xs ≡ []
none_left [] e = refl
none_left (x ∷ xs) e = let h : suc (length xs) ≡ 0 = eqb-true (suc (length xs)) 0 (sym e) in absurd (omega (arith, h))

pub walk_over : {bytes rest : List ℕ} {rows : List KeyRow} {number : ℕ} → IsWalk bytes rest rows number → true ≡ (length rest == 0) → AreKeys bytes rows
walk_over {bytes} {rest} {rows} {number} w e = walk_ends (subst (λ (xs : List ℕ). IsWalk bytes xs rows number) (none_left rest e) w)

-- One turn of the loops that read lists.
use Rattle.std.proofs.Common.{◌≡◌, ℕ, suc, ◌+◌, ◌-◌, ◌<◌, ◌≤◌, true, false, cond, ℤ, List, [], ◌∷◌, ◌++◌, Some, None, refl, sym, ◌∙◌, arith}
use Rattle.sv_lines.specs.Reading.{Read, ◌>>=◌, when_read, behind_front, next_read, joined_by, value_read, values_by}

module _ {A : Type 0} (reader : List ℕ → Read A) (close byte : List ℕ) (turns i : ℕ) (so_far : List A) (text : List ℕ) (total : Read (List A)) where
  pub joined_out : turns ≤ i → joined_by reader close byte (turns - i) so_far text ≡ total → total ≡ None
  joined_out le inv =
      let k : turns - i ≡ 0 = omega (arith, le) in
      sym inv ∙ rw k refl

  module _ (lt : i < turns) (inv : joined_by reader close byte (turns - i) so_far text ≡ total) where
    turn : total ≡ (reader text >>= λ x. next_read close byte x.1 >>= λ y. cond y.0 (Some (so_far ++ x.0 ∷ [], y.1)) (joined_by reader close byte (turns - (i + 1)) (so_far ++ x.0 ∷ []) y.1))
    turn =
        let k : turns - i ≡ suc (turns - (i + 1)) = omega (arith, lt) in
        sym inv ∙ rw k refl

    pub joined_fails : reader text ≡ None → total ≡ None
    joined_fails h = turn ∙ rw h refl

    module _ (a : A) (after : List ℕ) (now : List A) (read : reader text ≡ Some (a, after)) (pushed : now ≡ so_far ++ a ∷ []) where
      pub joined_breaks : next_read close byte after ≡ None → total ≡ None
      joined_breaks h = turn ∙ rw (read, h) refl

      pub joined_ends : (rest : List ℕ) → next_read close byte after ≡ Some (true, rest) → total ≡ Some (now, rest)
      joined_ends rest h = turn ∙ rw (read, h, pushed) refl

      pub joined_goes : (rest : List ℕ) → next_read close byte after ≡ Some (false, rest) → joined_by reader close byte (turns - (i + 1)) now rest ≡ total
      joined_goes rest h = sym (turn ∙ rw (read, h, pushed) refl)

module _ (turns i : ℕ) (so_far : List (List ℤ)) (text : List ℕ) (total : Read (List (List ℤ))) where
  pub values_out : turns ≤ i → values_by (turns - i) so_far text ≡ total → total ≡ Some (so_far, text)
  values_out le inv =
      let k : turns - i ≡ 0 = omega (arith, le) in
      sym inv ∙ rw k refl

  module _ (lt : i < turns) (inv : values_by (turns - i) so_far text ≡ total) where
    turn-values : total ≡ when_read (behind_front (40 ∷ []) text) (λ rest. value_read rest >>= λ v. values_by (turns - (i + 1)) (so_far ++ v.0 ∷ []) v.1) (Some (so_far, text))
    turn-values =
        let k : turns - i ≡ suc (turns - (i + 1)) = omega (arith, lt) in
        sym inv ∙ rw k refl

    pub values_end : behind_front (40 ∷ []) text ≡ None → total ≡ Some (so_far, text)
    values_end h = turn-values ∙ rw h refl

    module _ (inner : List ℕ) (here : behind_front (40 ∷ []) text ≡ Some inner) where
      pub values_fail : value_read inner ≡ None → total ≡ None
      values_fail h = turn-values ∙ rw (here, h) refl

      pub values_go : (v : List ℤ) (after : List ℕ) (now : List (List ℤ)) → value_read inner ≡ Some (v, after) → now ≡ so_far ++ v ∷ [] → values_by (turns - (i + 1)) now after ≡ total
      values_go v after now h pushed = sym (turn-values ∙ rw (here, h, pushed) refl)

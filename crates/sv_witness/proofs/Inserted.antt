-- Disputes in the order of their positions, with one more.
use Rattle.std.proofs.Common.{◌≡◌, ℕ, ◌<◌, ◌≤◌, ◌+◌, ◌==◌, nat_lt, List, [], ◌∷◌, ◌++◌, length, take, drop, insert, sym, ap, ◌∙◌, arith, append_assoc}
use Rattle.std.proofs.lemmas.Bool.{cond-true, cond-false, lt-ltb, le-ltb, eq-eqb, ne_eqb}
use Rattle.std.proofs.lemmas.List.{drop_all, take-append-drop}
use Rattle.sv_witness.specs.declared.report.Dispute.{Dispute}
use Rattle.sv_witness.specs.Disputes.{with_dispute}

-- The others up to a place, and then the dispute among those from it on.
abbrev pub EntersFrom : Dispute → List Dispute → ℕ → Type 0
EntersFrom d xs n = with_dispute d xs ≡ take n xs ++ with_dispute d (drop n xs)

pub enters-next : (d x : Dispute) (xs : List Dispute) (n : ℕ) → n < length xs → drop n xs ≡ x ∷ drop (n + 1) xs → take (n + 1) xs ≡ take n xs ++ x ∷ [] →
    x.pos < d.pos → EntersFrom d xs n → EntersFrom d xs (n + 1)
enters-next d x xs n low here front below before =
    before ∙ ap (λ (ys : List Dispute). take n xs ++ with_dispute d ys) here
    ∙ ap (λ (ys : List Dispute). take n xs ++ ys) (cond-true (nat_lt x.pos d.pos) _ _ (lt-ltb x.pos d.pos below))
    ∙ sym (append_assoc (take n xs) (x ∷ []) (with_dispute d (drop (n + 1) xs)))
    ∙ ap (λ (ys : List Dispute). ys ++ with_dispute d (drop (n + 1) xs)) (sym front)

-- One about the position is there.
pub enters-none : (d x : Dispute) (xs rest : List Dispute) (n : ℕ) → drop n xs ≡ x ∷ rest → x.pos ≡ d.pos → EntersFrom d xs n → with_dispute d xs ≡ xs
enters-none d x xs rest n here same before =
    before ∙ ap (λ (ys : List Dispute). take n xs ++ with_dispute d ys) here
    ∙ ap (λ (ys : List Dispute). take n xs ++ ys) (cond-false (nat_lt x.pos d.pos) _ _ (le-ltb x.pos d.pos (omega arith)) ∙ cond-true (x.pos == d.pos) (x ∷ rest) (d ∷ x ∷ rest) (eq-eqb x.pos d.pos same))
    ∙ ap (λ (ys : List Dispute). take n xs ++ ys) (sym here) ∙ take-append-drop n xs

pub enters-here : (d x : Dispute) (xs rest : List Dispute) (n : ℕ) → drop n xs ≡ x ∷ rest → d.pos < x.pos → EntersFrom d xs n → insert xs n d ≡ with_dispute d xs
enters-here d x xs rest n here above before =
    sym (before ∙ ap (λ (ys : List Dispute). take n xs ++ with_dispute d ys) here
    ∙ ap (λ (ys : List Dispute). take n xs ++ ys) (cond-false (nat_lt x.pos d.pos) _ _ (le-ltb x.pos d.pos (omega arith)) ∙ cond-false (x.pos == d.pos) (x ∷ rest) (d ∷ x ∷ rest) (ne_eqb x.pos d.pos (λ same. omega arith)))
    ∙ ap (λ (ys : List Dispute). take n xs ++ d ∷ ys) (sym here))

pub enters-last : (d : Dispute) (xs : List Dispute) (n : ℕ) → length xs ≤ n → EntersFrom d xs n → insert xs n d ≡ with_dispute d xs
enters-last d xs n high before =
    sym (before ∙ ap (λ (ys : List Dispute). take n xs ++ with_dispute d ys) (drop_all n xs high)
    ∙ ap (λ (ys : List Dispute). take n xs ++ d ∷ ys) (sym (drop_all n xs high)))

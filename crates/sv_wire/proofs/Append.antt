-- Writing parts one after the other, and the parts of a body.
use Rattle.std.proofs.Common.{◌≡◌, ℕ, ◌+◌, ◌<◌, List, [], ◌∷◌, ◌++◌, length, map, get_or, take, sym, ap, ◌∙◌, append_assoc}
use Rattle.std.specs.List.{flat_map}
use Rattle.std.proofs.lemmas.List.{take_more, flat_map_more, length-map}
use Rattle.std.proofs.lemmas.List.Folds.{flat_map-map}
use Rattle.std.proofs.lemmas.List.Sums.{sum_by-cons}
use Rattle.sv_world.specs.Trees.{stmt_nodes, body_nodes}
use Rattle.sv_world.specs.declared.action.Stmt.{Stmt}
use Rattle.sv_wire.specs.Spelling.{stmt_bytes, body_bytes}

pub written_more : {A : Type 0} (spell : A → List ℕ) (xs : List A) (i : ℕ) (x d : A) (old before new : List ℕ) → i < length xs → x ≡ get_or xs i d → before ≡ old ++ flat_map spell (take i xs) → new ≡ before ++ spell x
    → new ≡ old ++ flat_map spell (take (i + 1) xs)
written_more {A = A} spell xs i x d old before new lt is so_far put =
    let more : take i xs ++ x ∷ [] ≡ take (i + 1) xs = ap (λ (y : A). take i xs ++ y ∷ []) is ∙ sym (take_more xs i d lt) in
    put ∙ ap (λ (t : List ℕ). t ++ spell x) so_far ∙ flat_map_more spell old (take i xs) x ∙ ap (λ (ys : List A). old ++ flat_map spell ys) more

pub nodes_more : (s : Stmt) (body : List Stmt) → body_nodes (s ∷ body) ≡ stmt_nodes s + body_nodes body
nodes_more s body = sum_by-cons (λ (n : ℕ). n) (stmt_nodes s) (map stmt_nodes body)

pub body_is : (body : List Stmt) → length body ∷ flat_map stmt_bytes body ≡ body_bytes body
body_is body = ap (λ (n : ℕ). n ∷ flat_map stmt_bytes body) (sym (length-map body stmt_bytes)) ∙ ap (λ (t : List ℕ). length (map stmt_bytes body) ∷ t) (sym (flat_map-map (λ (x : List ℕ). x) stmt_bytes body))

pub after_three : (old a b c n1 n2 n3 : List ℕ) → n1 ≡ old ++ a → n2 ≡ n1 ++ b → n3 ≡ n2 ++ c → n3 ≡ old ++ (a ++ b ++ c)
after_three old a b c n1 n2 n3 p q r =
    r ∙ ap (λ (t : List ℕ). t ++ c) (q ∙ ap (λ (t : List ℕ). t ++ b) p ∙ append_assoc old a b) ∙ append_assoc old (a ++ b) c

pub after_four : (old a b c d n1 n2 n3 n4 : List ℕ) → n1 ≡ old ++ a → n2 ≡ n1 ++ b → n3 ≡ n2 ++ c → n4 ≡ n3 ++ d → n4 ≡ old ++ (a ++ b ++ c ++ d)
after_four old a b c d n1 n2 n3 n4 p q r s =
    s ∙ ap (λ (t : List ℕ). t ++ d) (after_three old a b c n1 n2 n3 p q r) ∙ append_assoc old (a ++ b ++ c) d

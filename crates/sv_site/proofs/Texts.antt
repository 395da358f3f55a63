-- Texts that are appended one after another.
use Rattle.std.proofs.Common.{◌≡◌, ℕ, List, ◌++◌, Result, Ok, Err, ap, ◌∙◌, append_assoc}
use Rattle.std.specs.Prelude.{OnOk}

pub put_two : {X E : Type 0} (r : Result X E) (t0 t1 t2 a b : List ℕ) → t1 ≡ t0 ++ a → OnOk r (t2 ≡ t1 ++ b) → OnOk r (t2 ≡ t0 ++ (a ++ b))
put_two (Ok x) t0 t1 t2 a b first second = second ∙ (ap (λ l. l ++ b) first ∙ append_assoc t0 a b)
put_two (Err e) t0 t1 t2 a b first second = tt

pub put_three : {X E : Type 0} (r : Result X E) (t0 t1 t2 t3 a b c : List ℕ) → t1 ≡ t0 ++ a → t2 ≡ t1 ++ b → OnOk r (t3 ≡ t2 ++ c) → OnOk r (t3 ≡ t0 ++ ((a ++ b) ++ c))
put_three r t0 t1 t2 t3 a b c first second third =
    put_two r t0 t2 t3 (a ++ b) c (second ∙ (ap (λ l. l ++ b) first ∙ append_assoc t0 a b)) third

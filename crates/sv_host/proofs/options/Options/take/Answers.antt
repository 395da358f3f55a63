-- An option was taken.
use Rattle.std.proofs.Common.{◌≡◌, ℕ, List, ◌∷◌, Some, None, map, string_bytes, refl, sym, ap, subst, ◌∙◌}
use Rattle.sv_host.specs.Words.{asked_by, flagged, measured, named, or_else, taken}
use Rattle.sv_host.specs.declared.options.Options.{Options}
use Rattle.sv_host.proofs.Taking.{flag_taken, value_taken}
use Rattle.sv_host.proofs.options.Options.take.Goals as goal

pub loop-word-preserved-then-take_flag : goal.loop-word-preserved-then-take_flag
loop-word-preserved-then-take_flag c =
    let flag = flag_taken c.as_str.result.now (map string_bytes c.in-Some.behind.now) (asked_by c.loop-word.self) (asked_by c.take_flag.new.self) c.if-take_flag.ensures.taken in
    let words : map string_bytes c.loop-word.rest.now ≡ c.as_str.result.now ∷ map string_bytes c.in-Some.behind.now =
    ap (map string_bytes) c.in-Some.ensures.cases.0 ∙ ap (λ (w : List ℕ). w ∷ map string_bytes c.in-Some.behind.now) (sym c.as_str.ensures.value) in
    sym flag ∙ ap (λ (ws : List (List ℕ)). taken ws (asked_by c.loop-word.self)) (sym words) ∙ c.loop-word.invariant

pub loop-word-preserved : goal.loop-word-preserved
loop-word-preserved c =
    let same = c.if-take_flag.ensures.same refl in
    let value = value_taken c.as_str-in-Some.result.now c.as_str-in-Some-2.result.now (map string_bytes c.in-Some-split_first.behind.now) (asked_by c.loop-word.self)
    (asked_by c.take_valued.new.self)
    (subst (λ (w : List ℕ). flagged w (asked_by c.loop-word.self) ≡ None) (c.as_str.ensures.value ∙ sym c.as_str-in-Some.ensures.value) c.if-take_flag.ensures.taken)
    (subst (λ (o : Options). or_else (named c.as_str-in-Some.result.now c.as_str-in-Some-2.result.now (asked_by o)) (measured c.as_str-in-Some.result.now c.as_str-in-Some-2.result.now (asked_by o)) ≡ Some (asked_by c.take_valued.new.self)) same c.in_ok-take_valued.ensures.ok) in
    let words : map string_bytes c.loop-word.rest.now ≡ c.as_str-in-Some.result.now ∷ c.as_str-in-Some-2.result.now ∷ map string_bytes c.in-Some-split_first.behind.now =
    ap (map string_bytes) c.in-Some.ensures.cases.0
    ∙ ap (λ (ws : List (List ℕ)). string_bytes c.in-Some.word.now ∷ ws) (ap (map string_bytes) c.in-Some-split_first.ensures.cases.0)
    ∙ ap (λ (w : List ℕ). w ∷ string_bytes c.in-Some-split_first.value.now ∷ map string_bytes c.in-Some-split_first.behind.now) (sym c.as_str-in-Some.ensures.value)
    ∙ ap (λ (w : List ℕ). c.as_str-in-Some.result.now ∷ w ∷ map string_bytes c.in-Some-split_first.behind.now) (sym c.as_str-in-Some-2.ensures.value) in
    sym value ∙ ap (λ (ws : List (List ℕ)). taken ws (asked_by c.loop-word.self)) (sym words) ∙ c.loop-word.invariant

-- What is proved by hand of `put_digits`.
use Rattle.std.proofs.Common.{rules, ◌≡◌, ◌∙◌, ◌++◌, ◌∷◌, [], ◌+◌, ◌-◌, ◌/◌, ◌%◌, suc, ℕ, List, string_bytes, ap, sym, arith, append_assoc}
use Rattle.sv_log.specs.Names.{digits}
use Rattle.sv_log.proofs.Numbers.{digits_more}
use Rattle.sv_log.proofs.names.+put_digits.Goals as goal

pub returns : goal.returns
returns t c =
    let n = c.args.number in
    let count : c.args.count ≡ suc (c.args.count - 1) = omega (arith, c.if-count-eq0.false) in
    let all : string_bytes c.args.name.now ++ digits (c.args.count - 1) (n / 10) ++ (48 + n % 10) ∷ [] ≡ string_bytes c.args.name.now ++ digits c.args.count n =
    append_assoc (string_bytes c.args.name.now) (digits (c.args.count - 1) (n / 10)) ((48 + n % 10) ∷ [])
    ∙ ap (λ (l : List ℕ). string_bytes c.args.name.now ++ l) (sym (digits_more (c.args.count - 1) n) ∙ ap (λ (m : ℕ). digits m n) (sym count)) in
    grind (arith, rules, all)

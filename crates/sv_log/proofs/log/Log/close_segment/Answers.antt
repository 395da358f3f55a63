-- What is proved by hand of `close_segment`.
use Rattle.std.proofs.Common.{◌≡◌, ◌+◌, ◌∙◌, ◌++◌, ◌∷◌, ℕ, List, [], Some, None, length, sym, subst, rules}
use Rattle.sv_log.specs.Pictures.{seen, zeros}
use Rattle.sv_log.specs.Texts.{whole_in}
use Rattle.sv_log.specs.Logs.{LogStands}
use Rattle.sv_log.proofs.GoingOn.{log_rest, next_number, onward_file, onward_none, onward_differ, onward_only, onward_empty, onward_text, onward_world, onward_newest, onward_open}
use Rattle.sv_log.proofs.log.Log.close_segment.Goals as goal

pub returns-then-self-ge18446744073709551615-clause-any_moment : goal.returns-then-self-ge18446744073709551615-clause-any_moment
returns-then-self-ge18446744073709551615-clause-any_moment g c = λ h world own. log_rest g.F.Folder.disk c.args.self.now (c.requires.open h) world own (c.requires.rest h)

pub returns-in_default-clause-any_moment : goal.returns-in_default-clause-any_moment
returns-in_default-clause-any_moment g c = λ h world own. log_rest g.F.Folder.disk c.args.self.now (c.requires.open h) world own (c.requires.rest h)

pub returns-then-is_err-clause-any_moment : goal.returns-then-is_err-clause-any_moment
returns-then-is_err-clause-any_moment g c = λ h world own. log_rest g.F.Folder.disk c.args.self.now (c.requires.open h) world own (c.requires.rest h)

pub next_file-requires : goal.next_file-requires
next_file-requires g c = record {
  rest = c.requires.rest;
  file = λ h.
      let is_open = c.requires.open h in
      let f = onward_file g.F.Folder.disk c.args.self.now is_open (next_number g.F.Folder.disk c.args.self.now is_open c.if-self-ge18446744073709551615.false) c.requires.some in
      subst (λ (n : List ℕ). (room : ℕ) × (seen (g.F.Folder.disk c.args.self.now.segment.folder) n ≡ Some (whole_in (seen (g.F.Folder.disk c.args.self.now.segment.folder) n) ++ zeros room)))
      (sym c.as_str.ensures.value) f;
  size = λ h.
      subst (λ (n : List ℕ). c.args.self.now.segment.length ≡ length (whole_in (seen (g.F.Folder.disk c.args.self.now.segment.folder) n))) (sym c.as_str.ensures.value)
      (c.requires.open h).segment.size;
  none = λ h.
      let is_open = c.requires.open h in
      subst (λ (n : List ℕ). seen (g.F.Folder.disk c.args.self.now.segment.folder) n ≡ None) (sym (c.as_str-2.ensures.value ∙ c.in-Ok.ensures))
      (onward_none g.F.Folder.disk c.args.self.now is_open (next_number g.F.Folder.disk c.args.self.now is_open c.if-self-ge18446744073709551615.false) c.requires.some);
  differ = λ h e.
      let is_open = c.requires.open h in
      onward_differ g.F.Folder.disk c.args.self.now is_open (next_number g.F.Folder.disk c.args.self.now is_open c.if-self-ge18446744073709551615.false) c.requires.some
      (sym (c.as_str-2.ensures.value ∙ c.in-Ok.ensures) ∙ e ∙ c.as_str.ensures.value);
}

pub returns-in_err-next_file-clause-any_moment : goal.returns-in_err-next_file-clause-any_moment
returns-in_err-next_file-clause-any_moment g c = λ h world own.
    let is_open = c.requires.open (c.next_file.ensures.honest h) in
    onward_only g.F.Folder.disk c.args.self.now is_open (next_number g.F.Folder.disk c.args.self.now is_open c.if-self-ge18446744073709551615.false) c.requires.some (g.F.Folder.disk c.next_file.new.folder)
    c.as_str.result.now c.as_str-2.result.now world c.as_str.ensures.value (c.as_str-2.ensures.value ∙ c.in-Ok.ensures) own (c.next_file.ensures.any_moment h)

pub returns-clause-any_moment : goal.returns-clause-any_moment
returns-clause-any_moment g c = λ h world own.
    let is_open = c.requires.open (c.next_file.ensures.honest h) in
    onward_only g.F.Folder.disk c.args.self.now is_open (next_number g.F.Folder.disk c.args.self.now is_open c.if-self-ge18446744073709551615.false) c.requires.some (g.F.Folder.disk c.next_file.new.folder)
    c.as_str.result.now c.as_str-2.result.now world c.as_str.ensures.value (c.as_str-2.ensures.value ∙ c.in-Ok.ensures) own (c.next_file.ensures.any_moment h)

pub returns-clause-open : goal.returns-clause-open
returns-clause-open g c = λ h.
    let is_open = c.requires.open (c.next_file.ensures.honest h) in
    let pushed : c.push.new.self.items ≡ c.args.self.now.closed.items ++ c.args.self.now.first ∷ [] = search rules in
    onward_open g.F.Folder.disk c.args.self.now is_open (next_number g.F.Folder.disk c.args.self.now is_open c.if-self-ge18446744073709551615.false) c.requires.some c.next_file.new.folder c.in-Ok.name c.push.new.self
    c.in-Ok.ensures pushed
    (subst (λ (n : List ℕ). LogStands (g.F.Folder.disk c.next_file.new.folder) n [] [] c.args.self.now.segment.spare) c.as_str-2.ensures.value (c.in_ok-next_file.ensures.stands h))
    (subst (λ (n : List ℕ). seen (g.F.Folder.disk c.next_file.new.folder) n ≡ Some (whole_in (seen (g.F.Folder.disk c.args.self.now.segment.folder) n))) c.as_str.ensures.value
    (c.in_ok-next_file.ensures.file h))
    (λ n a b. c.in_ok-next_file.ensures.others h n (λ e. a (e ∙ c.as_str.ensures.value)) (λ e. b (e ∙ c.as_str-2.ensures.value)))

pub returns-clause-text : goal.returns-clause-text
returns-clause-text g c = λ h.
    let is_open = c.requires.open (c.next_file.ensures.honest h) in
    let pushed : c.push.new.self.items ≡ c.args.self.now.closed.items ++ c.args.self.now.first ∷ [] = search rules in
    onward_text g.F.Folder.disk c.args.self.now is_open (next_number g.F.Folder.disk c.args.self.now is_open c.if-self-ge18446744073709551615.false) c.requires.some c.next_file.new.folder c.in-Ok.name c.push.new.self
    c.in-Ok.ensures pushed
    (subst (λ (n : List ℕ). LogStands (g.F.Folder.disk c.next_file.new.folder) n [] [] c.args.self.now.segment.spare) c.as_str-2.ensures.value (c.in_ok-next_file.ensures.stands h))
    (subst (λ (n : List ℕ). seen (g.F.Folder.disk c.next_file.new.folder) n ≡ Some (whole_in (seen (g.F.Folder.disk c.args.self.now.segment.folder) n))) c.as_str.ensures.value
    (c.in_ok-next_file.ensures.file h))
    (λ n a b. c.in_ok-next_file.ensures.others h n (λ e. a (e ∙ c.as_str.ensures.value)) (λ e. b (e ∙ c.as_str-2.ensures.value)))

pub returns-clause-empty : goal.returns-clause-empty
returns-clause-empty g c = λ h.
    let is_open = c.requires.open (c.next_file.ensures.honest h) in
    let pushed : c.push.new.self.items ≡ c.args.self.now.closed.items ++ c.args.self.now.first ∷ [] = search rules in
    onward_empty g.F.Folder.disk c.args.self.now is_open (next_number g.F.Folder.disk c.args.self.now is_open c.if-self-ge18446744073709551615.false) c.requires.some c.next_file.new.folder c.in-Ok.name c.push.new.self
    c.in-Ok.ensures pushed
    (subst (λ (n : List ℕ). LogStands (g.F.Folder.disk c.next_file.new.folder) n [] [] c.args.self.now.segment.spare) c.as_str-2.ensures.value (c.in_ok-next_file.ensures.stands h))
    (subst (λ (n : List ℕ). seen (g.F.Folder.disk c.next_file.new.folder) n ≡ Some (whole_in (seen (g.F.Folder.disk c.args.self.now.segment.folder) n))) c.as_str.ensures.value
    (c.in_ok-next_file.ensures.file h))
    (λ n a b. c.in_ok-next_file.ensures.others h n (λ e. a (e ∙ c.as_str.ensures.value)) (λ e. b (e ∙ c.as_str-2.ensures.value)))

pub returns-clause-newest : goal.returns-clause-newest
returns-clause-newest g c = λ h.
    let is_open = c.requires.open (c.next_file.ensures.honest h) in
    let pushed : c.push.new.self.items ≡ c.args.self.now.closed.items ++ c.args.self.now.first ∷ [] = search rules in
    onward_newest g.F.Folder.disk c.args.self.now is_open (next_number g.F.Folder.disk c.args.self.now is_open c.if-self-ge18446744073709551615.false) c.requires.some c.next_file.new.folder c.in-Ok.name c.push.new.self
    c.in-Ok.ensures pushed
    (subst (λ (n : List ℕ). LogStands (g.F.Folder.disk c.next_file.new.folder) n [] [] c.args.self.now.segment.spare) c.as_str-2.ensures.value (c.in_ok-next_file.ensures.stands h))
    (subst (λ (n : List ℕ). seen (g.F.Folder.disk c.next_file.new.folder) n ≡ Some (whole_in (seen (g.F.Folder.disk c.args.self.now.segment.folder) n))) c.as_str.ensures.value
    (c.in_ok-next_file.ensures.file h))
    (λ n a b. c.in_ok-next_file.ensures.others h n (λ e. a (e ∙ c.as_str.ensures.value)) (λ e. b (e ∙ c.as_str-2.ensures.value)))

pub returns-clause-world : goal.returns-clause-world
returns-clause-world g c = λ h.
    let is_open = c.requires.open (c.next_file.ensures.honest h) in
    let pushed : c.push.new.self.items ≡ c.args.self.now.closed.items ++ c.args.self.now.first ∷ [] = search rules in
    onward_world g.F.Folder.disk c.args.self.now is_open (next_number g.F.Folder.disk c.args.self.now is_open c.if-self-ge18446744073709551615.false) c.requires.some c.next_file.new.folder c.in-Ok.name c.push.new.self
    c.in-Ok.ensures pushed
    (subst (λ (n : List ℕ). LogStands (g.F.Folder.disk c.next_file.new.folder) n [] [] c.args.self.now.segment.spare) c.as_str-2.ensures.value (c.in_ok-next_file.ensures.stands h))
    (subst (λ (n : List ℕ). seen (g.F.Folder.disk c.next_file.new.folder) n ≡ Some (whole_in (seen (g.F.Folder.disk c.args.self.now.segment.folder) n))) c.as_str.ensures.value
    (c.in_ok-next_file.ensures.file h))
    (λ n a b. c.in_ok-next_file.ensures.others h n (λ e. a (e ∙ c.as_str.ensures.value)) (λ e. b (e ∙ c.as_str-2.ensures.value)))

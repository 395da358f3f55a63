-- The versions of all objects, one object after another: what is of one object, what a put changes, and what a pruning leaves.
use Rattle.std.proofs.Common.{◌≡◌, ℕ, zero, suc, ◌+◌, ◌<◌, ◌≤◌, not, ◌&&◌, eqb, ltb, leb, List, [], ◌∷◌, ◌++◌, length, get_or, set, replicate, refl, sym, ap, ◌∙◌, subst, option_map, arith}
use Rattle.std.specs.List.{filter, list_any, count_by}
use Rattle.std.proofs.lemmas.Bool.{cond-true, cond-false, lt-ltb, le-ltb, ne_eqb, or_left, or_from, and_left}
use Rattle.std.proofs.lemmas.List.{append-nil, append_assoc, get_or_read}
use Rattle.std.proofs.lemmas.List.Elements.{filter-append, filter_agree}
use Rattle.sv_versions.specs.declared.history.Version.{Version}
use Rattle.sv_versions.specs.Held.{Held, versions_of, newest, read_below, latest, count_up_to, comes_before, put_in, is_outdated, pruned}
use Rattle.sv_versions.specs.Histories.{as_held, tagged, flat_from, flat}
use Rattle.sv_versions.proofs.Lists.{filter_map_is}
use Rattle.sv_versions.proofs.Rows.{own}

of_another : (x b : ℕ) (vs : List Version) → (b ≡ x → ⊥) → versions_of x (tagged b vs) ≡ []
of_another x b [] ne = refl
of_another x b (v ∷ vs) ne = cond-false (eqb b x) _ _ (ne_eqb b x ne) ∙ of_another x b vs ne

of_earlier : (x b : ℕ) (rows : List (List Version)) → x < b → versions_of x (flat_from b rows) ≡ []
of_earlier x b [] h = refl
of_earlier x b (vs ∷ rows) h =
    filter-append (λ g. eqb g.object x) (tagged b vs) (flat_from (b + 1) rows)
    ∙ ap (λ hs. hs ++ versions_of x (flat_from (b + 1) rows)) (of_another x b vs (λ e. omega arith))
    ∙ of_earlier x (b + 1) rows (omega arith)

of_later : (x b : ℕ) (rows : List (List Version)) → b + length rows ≤ x → versions_of x (flat_from b rows) ≡ []
of_later x b [] h = refl
of_later x b (vs ∷ rows) h =
    filter-append (λ g. eqb g.object x) (tagged b vs) (flat_from (b + 1) rows)
    ∙ ap (λ hs. hs ++ versions_of x (flat_from (b + 1) rows)) (of_another x b vs (λ e. omega arith))
    ∙ of_later x (b + 1) rows (omega arith)

of_row : (x b k : ℕ) (rows : List (List Version)) → x ≡ b + k → k < length rows → versions_of x (flat_from b rows) ≡ tagged x (get_or rows k [])
of_row x b k [] e h = absurd (omega arith)
of_row x b zero (vs ∷ rows) e h =
    let here : x ≡ b = omega arith in
    filter-append (λ g. eqb g.object x) (tagged b vs) (flat_from (b + 1) rows)
    ∙ ap (λ hs. versions_of x (tagged b vs) ++ hs) (of_earlier x (b + 1) rows (omega arith))
    ∙ append-nil (versions_of x (tagged b vs))
    ∙ ap (λ c. versions_of x (tagged c vs)) (sym here)
    ∙ own x vs
of_row x b (suc k) (vs ∷ rows) e h =
    filter-append (λ g. eqb g.object x) (tagged b vs) (flat_from (b + 1) rows)
    ∙ ap (λ hs. hs ++ versions_of x (flat_from (b + 1) rows)) (of_another x b vs (λ f. omega arith))
    ∙ of_row x (b + 1) k rows (omega arith) (omega arith)

pub of_flat : (x : ℕ) (rows : List (List Version)) → x < length rows → versions_of x (flat rows) ≡ versions_of x (tagged x (get_or rows x []))
of_flat x rows h = of_row x 0 x rows (omega arith) h ∙ sym (own x (get_or rows x []))

pub of_flat_past : (x : ℕ) (rows : List (List Version)) → length rows ≤ x → versions_of x (flat rows) ≡ []
of_flat_past x rows h = of_later x 0 rows (omega arith)

-- where all stand before, or behind
earlier_before : (b : ℕ) (vs : List Version) (h : Held) → b < h.object → filter (λ k. comes_before k h) (tagged b vs) ≡ tagged b vs
earlier_before b [] h l = refl
earlier_before b (v ∷ vs) h l =
    cond-true (comes_before (as_held b v) h) _ _ (or_left _ _ (lt-ltb b h.object l)) ∙ ap (λ hs. as_held b v ∷ hs) (earlier_before b vs h l)

earlier_behind : (b : ℕ) (vs : List Version) (h : Held) → b < h.object → filter (λ k. comes_before h k) (tagged b vs) ≡ []
earlier_behind b [] h l = refl
earlier_behind b (v ∷ vs) h l =
    cond-false (comes_before h (as_held b v)) _ _ (or_from _ _ (le-ltb h.object b (omega arith)) (and_left _ _ (ne_eqb h.object b (λ e. omega arith))))
    ∙ earlier_behind b vs h l

later_before : (b : ℕ) (vs : List Version) (h : Held) → h.object < b → filter (λ k. comes_before k h) (tagged b vs) ≡ []
later_before b [] h l = refl
later_before b (v ∷ vs) h l =
    cond-false (comes_before (as_held b v) h) _ _ (or_from _ _ (le-ltb b h.object (omega arith)) (and_left _ _ (ne_eqb b h.object (λ e. omega arith))))
    ∙ later_before b vs h l

later_behind : (b : ℕ) (vs : List Version) (h : Held) → h.object < b → filter (λ k. comes_before h k) (tagged b vs) ≡ tagged b vs
later_behind b [] h l = refl
later_behind b (v ∷ vs) h l =
    cond-true (comes_before h (as_held b v)) _ _ (or_left _ _ (lt-ltb h.object b l)) ∙ ap (λ hs. as_held b v ∷ hs) (later_behind b vs h l)

rows_before : (b : ℕ) (rows : List (List Version)) (h : Held) → h.object < b → filter (λ k. comes_before k h) (flat_from b rows) ≡ []
rows_before b [] h l = refl
rows_before b (vs ∷ rows) h l =
    filter-append (λ k. comes_before k h) (tagged b vs) (flat_from (b + 1) rows)
    ∙ ap (λ hs. hs ++ filter (λ k. comes_before k h) (flat_from (b + 1) rows)) (later_before b vs h l)
    ∙ rows_before (b + 1) rows h (omega arith)

rows_behind : (b : ℕ) (rows : List (List Version)) (h : Held) → h.object < b → filter (λ k. comes_before h k) (flat_from b rows) ≡ flat_from b rows
rows_behind b [] h l = refl
rows_behind b (vs ∷ rows) h l =
    filter-append (λ k. comes_before h k) (tagged b vs) (flat_from (b + 1) rows)
    ∙ ap (λ hs. hs ++ filter (λ k. comes_before h k) (flat_from (b + 1) rows)) (later_behind b vs h l)
    ∙ ap (λ hs. tagged b vs ++ hs) (rows_behind (b + 1) rows h (omega arith))

put_from : (b k : ℕ) (rows : List (List Version)) (h : Held) (row : List Version) → h.object ≡ b + k → k < length rows → tagged h.object row ≡ put_in (tagged h.object (get_or rows k [])) h → flat_from b (set rows k row) ≡ put_in (flat_from b rows) h
put_from b k [] h row e l p = absurd (omega arith)
put_from b zero (vs ∷ rows) h row e l p =
    let here : h.object ≡ b = omega arith in
    let mine : tagged b row ≡ put_in (tagged b vs) h = subst (λ (c : ℕ). tagged c row ≡ put_in (tagged c vs) h) here p in
    let rest = flat_from (b + 1) rows in
    let front : filter (λ k. comes_before k h) (tagged b vs ++ rest) ≡ filter (λ k. comes_before k h) (tagged b vs) =
    filter-append (λ k. comes_before k h) (tagged b vs) rest
    ∙ ap (λ hs. filter (λ k. comes_before k h) (tagged b vs) ++ hs) (rows_before (b + 1) rows h (omega arith))
    ∙ append-nil (filter (λ k. comes_before k h) (tagged b vs)) in
    let back : filter (λ k. comes_before h k) (tagged b vs ++ rest) ≡ filter (λ k. comes_before h k) (tagged b vs) ++ rest =
    filter-append (λ k. comes_before h k) (tagged b vs) rest
    ∙ ap (λ hs. filter (λ k. comes_before h k) (tagged b vs) ++ hs) (rows_behind (b + 1) rows h (omega arith)) in
    ap (λ hs. hs ++ rest) mine
    ∙ append_assoc (filter (λ k. comes_before k h) (tagged b vs)) (h ∷ filter (λ k. comes_before h k) (tagged b vs)) rest
    ∙ ap (λ hs. filter (λ k. comes_before k h) (tagged b vs) ++ h ∷ hs) (sym back)
    ∙ ap (λ hs. hs ++ h ∷ filter (λ k. comes_before h k) (tagged b vs ++ rest)) (sym front)
put_from b (suc k) (vs ∷ rows) h row e l p =
    let rest = flat_from (b + 1) rows in
    let front : filter (λ k. comes_before k h) (tagged b vs ++ rest) ≡ tagged b vs ++ filter (λ k. comes_before k h) rest =
    filter-append (λ k. comes_before k h) (tagged b vs) rest
    ∙ ap (λ hs. hs ++ filter (λ k. comes_before k h) rest) (earlier_before b vs h (omega arith)) in
    let back : filter (λ k. comes_before h k) (tagged b vs ++ rest) ≡ filter (λ k. comes_before h k) rest =
    filter-append (λ k. comes_before h k) (tagged b vs) rest
    ∙ ap (λ hs. hs ++ filter (λ k. comes_before h k) rest) (earlier_behind b vs h (omega arith)) in
    ap (λ hs. tagged b vs ++ hs) (put_from (b + 1) k rows h row (omega arith) (omega arith) p)
    ∙ sym (append_assoc (tagged b vs) (filter (λ k. comes_before k h) rest) (h ∷ filter (λ k. comes_before h k) rest))
    ∙ ap (λ hs. hs ++ h ∷ filter (λ k. comes_before h k) rest) (sym front)
    ∙ ap (λ hs. filter (λ k. comes_before k h) (tagged b vs ++ rest) ++ h ∷ hs) (sym back)

pub put_flat : (rows : List (List Version)) (h : Held) (row : List Version) → h.object < length rows → tagged h.object row ≡ put_in (tagged h.object (get_or rows h.object [])) h → flat (set rows h.object row) ≡ put_in (flat rows) h
put_flat rows h row l p = put_from 0 h.object rows h row (omega arith) l p

same_prune : (commit b : ℕ) (all : List Held) (vs : List Version) → versions_of b all ≡ versions_of b (tagged b vs) → filter (λ h. not (is_outdated commit all h)) (tagged b vs) ≡ pruned commit (tagged b vs)
same_prune commit b all vs e =
    filter_map_is (as_held b) (λ h. not (is_outdated commit all h)) vs
    ∙ ap (λ ws. tagged b ws) (filter_agree (λ v. not (is_outdated commit all (as_held b v))) (λ v. not (is_outdated commit (tagged b vs) (as_held b v)))
    (λ v. ap (λ hs. not (list_any (λ k. ltb v.pos k.pos && leb k.pos commit) hs)) e) vs)
    ∙ sym (filter_map_is (as_held b) (λ h. not (is_outdated commit (tagged b vs) h)) vs)

prune_from : (commit b : ℕ) (all : List Held) (rows done : List (List Version)) → length done ≡ length rows → ((k : ℕ) → k < length rows → versions_of (b + k) all ≡ versions_of (b + k) (tagged (b + k) (get_or rows k []))) → ((k : ℕ) → k < length rows → tagged (b + k) (get_or done k []) ≡ pruned commit (tagged (b + k) (get_or rows k []))) → flat_from b done ≡ filter (λ h. not (is_outdated commit all h)) (flat_from b rows)
prune_from commit b all [] [] l same each = refl
prune_from commit b all [] (ds ∷ done) l same each = absurd (omega arith)
prune_from commit b all (vs ∷ rows) [] l same each = absurd (omega arith)
prune_from commit b all (vs ∷ rows) (ds ∷ done) l same each =
    let here : b + 0 ≡ b = omega arith in
    let mine : tagged b ds ≡ pruned commit (tagged b vs) = subst (λ (c : ℕ). tagged c ds ≡ pruned commit (tagged c vs)) here (each 0 (omega arith)) in
    let of_b : versions_of b all ≡ versions_of b (tagged b vs) = subst (λ (c : ℕ). versions_of c all ≡ versions_of c (tagged c vs)) here (same 0 (omega arith)) in
    ap (λ hs. hs ++ flat_from (b + 1) done) (mine ∙ sym (same_prune commit b all vs of_b))
    ∙ ap (λ hs. filter (λ h. not (is_outdated commit all h)) (tagged b vs) ++ hs) (prune_from commit (b + 1) all rows done (omega arith)
    (λ k h. let next : b + suc k ≡ b + 1 + k = omega arith in subst (λ (c : ℕ). versions_of c all ≡ versions_of c (tagged c (get_or rows k []))) next (same (suc k) (omega arith)))
    (λ k h. let next : b + suc k ≡ b + 1 + k = omega arith in subst (λ (c : ℕ). tagged c (get_or done k []) ≡ pruned commit (tagged c (get_or rows k []))) next (each (suc k) (omega arith))))
    ∙ sym (filter-append (λ h. not (is_outdated commit all h)) (tagged b vs) (flat_from (b + 1) rows))

pub prune_flat : (commit : ℕ) (rows done : List (List Version)) → length done ≡ length rows → ((k : ℕ) → k < length rows → tagged k (get_or done k []) ≡ pruned commit (tagged k (get_or rows k []))) → flat done ≡ pruned commit (flat rows)
prune_flat commit rows done l each =
    prune_from commit 0 (flat rows) rows done l
    (λ k h. let e : 0 + k ≡ k = omega arith in subst (λ (c : ℕ). versions_of c (flat rows) ≡ versions_of c (tagged c (get_or rows k []))) (sym e) (of_flat k rows h))
    (λ k h. let e : 0 + k ≡ k = omega arith in subst (λ (c : ℕ). tagged c (get_or done k []) ≡ pruned commit (tagged c (get_or rows k []))) (sym e) (each k h))

pub flat_nothing : (b n : ℕ) → flat_from b (replicate n []) ≡ []
flat_nothing b zero = refl
flat_nothing b (suc n) = flat_nothing (b + 1) n

of_same : (x : ℕ) (rows : List (List Version)) (vs : List Version) → x < length rows → vs ≡ get_or rows x vs → versions_of x (tagged x vs) ≡ versions_of x (flat rows)
of_same x rows vs h e = ap (λ (r : List Version). versions_of x (tagged x r)) (get_or_read rows x vs h e []) ∙ sym (of_flat x rows h)

pub read_row : (x pos : ℕ) (rows : List (List Version)) (vs : List Version) → x < length rows → vs ≡ get_or rows x vs → read_below (tagged x vs) x pos ≡ read_below (flat rows) x pos
read_row x pos rows vs h e = ap (λ hs. option_map (λ (g : Held). g.value) (newest (filter (λ g. ltb g.pos pos) hs))) (of_same x rows vs h e)

pub latest_row : (x : ℕ) (rows : List (List Version)) (vs : List Version) → x < length rows → vs ≡ get_or rows x vs → latest (tagged x vs) x ≡ latest (flat rows) x
latest_row x rows vs h e = ap (λ hs. option_map (λ (g : Held). g.value) (newest hs)) (of_same x rows vs h e)

pub count_row : (x pos : ℕ) (rows : List (List Version)) (vs : List Version) → x < length rows → vs ≡ get_or rows x vs → count_up_to (tagged x vs) x pos ≡ count_up_to (flat rows) x pos
count_row x pos rows vs h e = ap (λ hs. count_by (λ g. leb g.pos pos) hs) (of_same x rows vs h e)

-- The shares that are listed place by place, at each place section by section.
use Rattle.std.proofs.Common.{◌≡◌, ℕ, ◌+◌, ◌-◌, ◌*◌, ◌%◌, ◌/◌, ◌<◌, ◌≤◌, ℤ, pos, ◌+ℤ◌, ◌≤ℤ◌, List, [], ◌∷◌, ◌++◌, length, get_or, sym, ◌∙◌, ap, subst, arith, inl, inr, length-append}
use Rattle.std.proofs.lemmas.Bool.{cases_lt}
use Rattle.std.proofs.lemmas.Nat.{div-mul-add, mod-mul-add}
use Rattle.rail_model.specs.Table.{Table, IsTable, trains, last, share, change}
use Rattle.rail_model.proofs.Shares.{share_bounds}
use Rattle.state_boxes.specs.Cells.{AreSingle}
use Rattle.state_boxes.specs.Each.{IsEach}
use Rattle.state_boxes.proofs.Each.{each_push}
use Rattle.state_boxes.proofs.Stepped.{IsShareAt, stepped}

module _ (T : Table) (i s k : ℕ) (shares : List ℤ) (every : AreSingle T i shares) (s_in : s < length T.sections)
    (many : length shares ≡ k * length T.sections + s) where
  pub single_push : (x : ℤ) → x ≡ share T i s k → AreSingle T i (shares ++ x ∷ [])
  single_push x here =
      let n = length T.sections in
      let P = λ (at : ℕ) (y : ℤ). y ≡ share T i (at % n) (at / n) in
      let placed : P (k * n + s) x =
      subst (λ (t : ℕ). x ≡ share T i t ((k * n + s) / n)) (sym (mod-mul-add k n s s_in))
      (subst (λ (place : ℕ). x ≡ share T i s place) (sym (div-mul-add k n s s_in)) here) in
      subst (λ (all : ℕ). IsEach P all (pos 0) (shares ++ x ∷ [])) (sym (length-append shares (x ∷ [])))
      (each_push P (length shares) (pos 0) shares x every (subst (λ (at : ℕ). P at x) (sym many) placed))

  -- the share one place before, and the one that it and the change from there make
  pub next_value : (sections : ℕ) (d : ℤ) → IsTable T → i < trains T → k ≤ last T i → sections ≡ length T.sections → (k ≡ 0 → ⊥) → d ≡ change T i s k
      → (pos 0 ≤ℤ get_or shares (length shares - sections) (pos 0)) × (get_or shares (length shares - sections) (pos 0) ≤ℤ pos 4)
      × IsShareAt T i s k (get_or shares (length shares - sections) (pos 0) +ℤ d)
  next_value sections d formed i_in k_in same later d_is =
      let n = length T.sections in
      let j = k - 1 in
      let some : 0 < k = elim (cases_lt 0 k) [
        | inl lt ↦ lt
        | inr le ↦ absurd (later (omega (arith, le)))
      ] in
      let k_is : j + 1 ≡ k = omega (arith, some) in
      let row : (j + 1) * n ≡ j * n + n = omega arith in
      let rows : (j + 1) * n ≡ k * n = ap (λ (m : ℕ). m * n) k_is in
      let at : length shares - sections ≡ j * n + s = omega (arith, many, same, row, rows) in
      let cell = every.1 (j * n + s) (omega (arith, many, row, rows, s_in)) in
      let here : get_or shares (j * n + s) (pos 0) ≡ share T i s j =
      cell ∙ ap (λ (t : ℕ). share T i t ((j * n + s) / n)) (mod-mul-add j n s s_in) ∙ ap (share T i s) (div-mul-add j n s s_in) in
      let value : get_or shares (length shares - sections) (pos 0) ≡ share T i s j = ap (λ (m : ℕ). get_or shares m (pos 0)) at ∙ here in
      let bounds = share_bounds T i s j formed i_in s_in (omega (arith, k_in, some)) in (
        subst (λ z. pos 0 ≤ℤ z) (sym value) bounds.0,
        subst (λ z. z ≤ℤ pos 4) (sym value) bounds.1,
        subst (λ (m : ℕ). IsShareAt T i s m (get_or shares (length shares - sections) (pos 0) +ℤ d)) k_is
            (stepped T i s j _ d formed i_in s_in (omega (arith, k_in, k_is)) value (d_is ∙ ap (change T i s) (sym k_is))),
      )

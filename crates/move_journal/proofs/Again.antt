-- What is written is read again.
use Rattle.std.proofs.Common.{◌≡◌, ◌≢◌, ℕ, ◌<◌, ◌^◌, List, [], ◌∷◌, ◌++◌, length, true, false, ltb, Option, Some, None, refl, sym, ap, ◌∙◌, codes, decimal, get_or, arith, inl, inr, subst}
use Rattle.std.specs.List.{All, join_with_byte, list_all}
use Rattle.std.specs.Int.{IsInRange}
use Rattle.std.specs.Option.{option_map, IfSome}
use Rattle.std.specs.Str.{bytes_eq}
use Rattle.std.proofs.Math.Seq.{take-append_seam, drop-append_seam}
use Rattle.std.proofs.lemmas.Bool.{cond-true, cond-false}
use Rattle.std.proofs.lemmas.Bool.Decides.{nat_tests}
use Rattle.std.proofs.lemmas.List.Elements.{All-from_get_or, All-weaker, All-nil, All-cons, All-append, All-head, All-tail}
use Rattle.std.proofs.lemmas.Slice.Eq.{bytes_eq-Decides}
use Rattle.std.proofs.lemmas.Fmt.{decimal_is_IsNumeral}
use Rattle.std.proofs.lemmas.Str.Parse.{digit_at}
use Rattle.rail_model.specs.declared.types.Line.{Line}
use Rattle.rail_model.specs.declared.types.Line.TheVariants.{Move, Table, KeptDiffers, KeptOver}
use Rattle.rail_model.specs.Names.{Names, IsNames, AreNames, IsNameByte, point_name, target_name}
use Rattle.rail_model.specs.Journal.{words}
use Rattle.move_journal.specs.Printable.{IsPrintable}
use Rattle.move_journal.specs.Words.{called, target_of, move_of, table_of, differs_of, over_of, kept_of, line_of, numbered_of, field_of, end_of, word_list}
use Rattle.decimal_number.proofs.Numbers.{number_of-decimal}
use Rattle.move_journal.proofs.Lookups.{called_found, bytes_eq-false}
use Rattle.move_journal.proofs.Splitting.{IsWord, word_list_more, word_list_last}
use Rattle.move_journal.proofs.Forms.{line_words, end_words, joined, end_joined, end_content}

-- no space and no newline
abbrev pub IsVisible : List ℕ → Type 0
IsVisible w = All (λ b. 32 < b) w

abbrev AreVisible : List (List ℕ) → Type 0
AreVisible [] = Unit {0}
AreVisible (w ∷ ws) = IsVisible w × AreVisible ws

literal : (w : List ℕ) → list_all (λ b. ltb 32 b) w ≡ true → IsVisible w
literal [] e = All-nil (λ b. 32 < b)
literal (b ∷ w) e =
    let here : 32 < b = grind (arith, nat_tests) in
    let later : list_all (λ c. ltb 32 c) w ≡ true = grind (arith, nat_tests) in
    All-cons (λ c. 32 < c) b w here (literal w later)

visible-decimal : (n : ℕ) → n < 2 ^ 32 → IsVisible (decimal n)
visible-decimal n small = All-from_get_or (λ b. 32 < b) (decimal n) 0 (λ i h. let p : IsInRange 48 57 (get_or (decimal n) i 0) = digit_at (decimal n) i (decimal_is_IsNumeral n (omega arith)).0.1 h in omega arith)

visible-name_byte : (b : ℕ) → IsNameByte b → 32 < b
visible-name_byte b (inl p) = omega arith
visible-name_byte b (inr (inl p)) = omega arith
visible-name_byte b (inr (inr (inl p))) = omega arith
visible-name_byte b (inr (inr (inr p))) = omega arith

visible-name : (names : List (List ℕ)) (i : ℕ) → AreNames names → i < length names → IsVisible (get_or names i [])
visible-name names i are within = All-weaker (λ b. IsNameByte b) (λ b. 32 < b) visible-name_byte (get_or names i []) (are.each i within).plain

visible-target : (N : Names) (to : Option ℕ) → IsNames N → IfSome to (λ q. q < length N.points) → IsVisible (target_name N to)
visible-target N None names h = literal (codes "-") refl
visible-target N (Some q) names h = visible-name N.points q names.points h

visible-line : (N : Names) (l : Line) → IsNames N → IsPrintable N l → AreVisible (line_words N l)
visible-line N (Move i from to) names h = (literal (codes "move") refl, (visible-name N.trains i names.trains h.0, (visible-name N.points from names.points h.1, (visible-target N to names h.2, tt))))
visible-line N (Table t) names h = (literal (codes "table") refl, (visible-decimal t h, tt))
visible-line N (KeptDiffers t i k) names h = (literal (codes "kept") refl, (visible-decimal t h.0, (literal (codes "differs") refl, (visible-name N.trains i names.trains h.1, (visible-decimal k h.2, tt)))))
visible-line N (KeptOver t s n) names h = (literal (codes "kept") refl, (visible-decimal t h.0, (literal (codes "over") refl, (visible-decimal s h.1, (visible-decimal n h.2, tt)))))

visible-end : (moves tables : ℕ) → moves < 2 ^ 32 → tables < 2 ^ 32 → AreVisible (end_words moves tables)
visible-end moves tables m t = (
  literal (codes "end") refl,
  (
    All-append (λ b. 32 < b) (codes "moves=") (decimal moves) (literal (codes "moves=") refl) (visible-decimal moves m),
    (
      All-append (λ b. 32 < b) (codes "tables=") (decimal tables) (literal (codes "tables=") refl) (visible-decimal tables t),
      tt,
    ),
  ),
)

a_word : (w : List ℕ) → IsVisible w → IsWord w
a_word w v = All-weaker (λ b. 32 < b) (λ b. b ≢ 32) (λ b h. omega arith) w v

split_joined : (w : List ℕ) (ws : List (List ℕ)) → AreVisible (w ∷ ws) → word_list (join_with_byte 32 (w ∷ ws)) ≡ w ∷ ws
split_joined w [] v = word_list_last w (a_word w v.0)
split_joined w (x ∷ ws) v = word_list_more w (join_with_byte 32 (x ∷ ws)) (a_word w v.0) ∙ ap (λ xs. w ∷ xs) (split_joined x ws v.1)

-- no newline
abbrev pub IsOneLine : List ℕ → Type 0
IsOneLine w = All (λ b. b ≢ 10) w

one_line : (w : List ℕ) (ws : List (List ℕ)) → AreVisible (w ∷ ws) → IsOneLine (join_with_byte 32 (w ∷ ws))
one_line w [] v = All-weaker (λ b. 32 < b) (λ b. b ≢ 10) (λ b h. omega arith) w v.0
one_line w (x ∷ ws) v =
    All-append (λ b. b ≢ 10) w (32 ∷ join_with_byte 32 (x ∷ ws)) (All-weaker (λ b. 32 < b) (λ b. b ≢ 10) (λ b h. omega arith) w v.0)
    (All-cons (λ b. b ≢ 10) 32 (join_with_byte 32 (x ∷ ws)) (omega arith) (one_line x ws v.1))

same_test : (a : List ℕ) → bytes_eq a a ≡ true
same_test a = (bytes_eq-Decides a a).1 refl

-- no point is called -
named : (N : Names) (q : ℕ) → IsNames N → q < length N.points → bytes_eq (point_name N q) (codes "-") ≡ false
named N q names h =
    bytes_eq-false (point_name N q) (codes "-") (λ e.
    let is = names.points.each q h in
    let c : IsNameByte 45 = subst (λ w. IsNameByte (get_or w 0 0)) e (is.plain 0 0 is.some) in
    no_name_byte c)
  where
    no_name_byte : IsNameByte 45 → ⊥
    no_name_byte (inl p) = omega arith
    no_name_byte (inr (inl p)) = omega arith
    no_name_byte (inr (inr (inl p))) = omega arith
    no_name_byte (inr (inr (inr p))) = omega arith

called_again : (names : List (List ℕ)) (i : ℕ) → AreNames names → i < length names → called names (get_or names i []) ≡ Some i
called_again names i are h = called_found names (get_or names i []) i are h refl

target_again : (N : Names) (to : Option ℕ) → IsNames N → IfSome to (λ q. q < length N.points) → target_of N (target_name N to) ≡ Some to
unfolding target_of
target_again N None names h = refl
target_again N (Some q) names h = cond-false _ _ _ (named N q names h) ∙ ap (option_map Some) (called_again N.points q names.points h)

line_again : (N : Names) (l : Line) → IsNames N → IsPrintable N l → line_of N (line_words N l) ≡ Some l
unfolding line_of move_of table_of kept_of differs_of over_of
line_again N (Move i from to) names h = rw (called_again N.trains i names.trains h.0, called_again N.points from names.points h.1, target_again N to names h.2) refl
line_again N (Table t) names h = rw (number_of-decimal t h) refl
line_again N (KeptDiffers t i k) names h = rw (number_of-decimal t h.0, called_again N.trains i names.trains h.1, number_of-decimal k h.2) refl
line_again N (KeptOver t s n) names h = rw (number_of-decimal t h.0, number_of-decimal s h.1, number_of-decimal n h.2) refl

pub numbered_again : (N : Names) (n : ℕ) (l : Line) → IsNames N → n < 2 ^ 32 → IsPrintable N l → numbered_of N (word_list (decimal n ++ words N l)) ≡ Some (n, l)
unfolding numbered_of
numbered_again N n l names small h =
    let split : word_list (decimal n ++ words N l) ≡ decimal n ∷ line_words N l =
    ap word_list (sym (joined N n l)) ∙ split_joined (decimal n) (line_words N l) (visible-decimal n small, visible-line N l names h) in
    rw (split, number_of-decimal n small, line_again N l names h) refl

field_again : (name : List ℕ) (n : ℕ) → n < 2 ^ 32 → field_of name (name ++ decimal n) ≡ Some n
unfolding field_of
field_again name n small =
    rw (take-append_seam name (decimal n), drop-append_seam name (decimal n)) (cond-true _ _ _ (same_test name) ∙ number_of-decimal n small)

pub end_split : (moves tables : ℕ) → moves < 2 ^ 32 → tables < 2 ^ 32 → word_list (end_content moves tables) ≡ end_words moves tables
end_split moves tables m t =
    ap word_list (sym (end_joined moves tables)) ∙ split_joined (codes "end") ((codes "moves=" ++ decimal moves) ∷ (codes "tables=" ++ decimal tables) ∷ []) (visible-end moves tables m t)

pub end_again : (moves tables : ℕ) → moves < 2 ^ 32 → tables < 2 ^ 32 → end_of (word_list (end_content moves tables)) ≡ Some (moves, tables)
unfolding end_of
end_again moves tables m t =
    let split = end_split moves tables m t in
    let a : field_of (codes "moves=") (codes "moves=" ++ decimal moves) ≡ Some moves = field_again (codes "moves=") moves m in
    let b : field_of (codes "tables=") (codes "tables=" ++ decimal tables) ≡ Some tables = field_again (codes "tables=") tables t in
    ap end_of split ∙ rw (a, b) refl

pub line-one_line : (N : Names) (n : ℕ) (l : Line) → IsNames N → n < 2 ^ 32 → IsPrintable N l → IsOneLine (decimal n ++ words N l)
line-one_line N n l names small h = subst IsOneLine (joined N n l) (one_line (decimal n) (line_words N l) (visible-decimal n small, visible-line N l names h))

pub end-one_line : (moves tables : ℕ) → moves < 2 ^ 32 → tables < 2 ^ 32 → IsOneLine (end_content moves tables)
end-one_line moves tables m t = subst IsOneLine (end_joined moves tables) (one_line (codes "end") ((codes "moves=" ++ decimal moves) ∷ (codes "tables=" ++ decimal tables) ∷ []) (visible-end moves tables m t))

-- a text is cut in one way at its first newline
pub cut_once : (a b x y : List ℕ) → IsOneLine a → IsOneLine b → a ++ 10 ∷ x ≡ b ++ 10 ∷ y → (a ≡ b) × (x ≡ y)
cut_once [] [] x y p q e = (refl, cc)
cut_once [] (c ∷ b) x y p q e = absurd (All-head (λ c. c ≢ 10) c b q (sym (let h : 10 ≡ c = cc in h)))
cut_once (c ∷ a) [] x y p q e = absurd (All-head (λ c. c ≢ 10) c a p (let h : c ≡ 10 = cc in h))
cut_once (c ∷ a) (d ∷ b) x y p q e =
    let heads : c ≡ d = cc in
    let r = cut_once a b x y (All-tail (λ c. c ≢ 10) c a p) (All-tail (λ c. c ≢ 10) d b q) cc in
    (let same : a ≡ b = r.0 in cc, r.1)

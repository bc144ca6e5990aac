-- The words of a line: what is read from them is what they were written from, and what is written is read.
use Rattle.std.proofs.Common.{◌≡◌, ℕ, ◌<◌, ◌^◌, List, [], ◌∷◌, ◌++◌, length, Bool, true, false, cond, Option, Some, None, refl, sym, ap, ◌∙◌, codes, decimal, ⊎_elim, inl, inr, ◌⊎◌, take, drop, subst}
use Rattle.std.specs.List.{join_with_byte}
use Rattle.std.specs.Option.{option_and_then, option_map, IfSome}
use Rattle.std.specs.Str.{bytes_eq}
use Rattle.std.proofs.lemmas.List.{append_assoc, take-append-drop}
use Rattle.std.proofs.lemmas.Option.{none-some, same_Some}
use Rattle.std.proofs.lemmas.Slice.Eq.{bytes_eq-Decides}
use Rattle.rail_model.specs.declared.types.Line.{Line}
use Rattle.rail_model.specs.declared.types.Line.TheVariants.{Move, Table, KeptDiffers, KeptOver}
use Rattle.rail_model.specs.Names.{Names, point_name, train_name, target_name}
use Rattle.rail_model.specs.Journal.{words}
use Rattle.move_journal.specs.Printable.{IsPrintable}
use Rattle.decimal_number.specs.Decimal.{number_of}
use Rattle.move_journal.specs.Words.{called, target_of, move_of, table_of, differs_of, over_of, kept_of, line_of, numbered_of, field_of, end_of, word_list}
use Rattle.decimal_number.proofs.Numbers.{number_takes}
use Rattle.move_journal.proofs.Lookups.{called_takes}
use Rattle.move_journal.proofs.Splitting.{words_joined}

-- the words of a line after its number
abbrev pub line_words : Names → Line → List (List ℕ)
line_words N (Move i from to) = codes "move" ∷ train_name N i ∷ point_name N from ∷ target_name N to ∷ []
line_words N (Table t) = codes "table" ∷ decimal t ∷ []
line_words N (KeptDiffers t i k) = codes "kept" ∷ decimal t ∷ codes "differs" ∷ train_name N i ∷ decimal k ∷ []
line_words N (KeptOver t s n) = codes "kept" ∷ decimal t ∷ codes "over" ∷ decimal s ∷ decimal n ∷ []

abbrev pub end_words : ℕ → ℕ → List (List ℕ)
end_words moves tables = codes "end" ∷ (codes "moves=" ++ decimal moves) ∷ (codes "tables=" ++ decimal tables) ∷ []

bind_some : {A B : Type 0} (f : A → Option B) (o : Option A) (y : B) → option_and_then f o ≡ Some y → (x : A) × (o ≡ Some x) × (f x ≡ Some y)
bind_some f None y e = absurd (none-some y e)
bind_some f (Some x) y e = (x, refl, e)

chosen : {A : Type 0} (b : Bool) (x y z : A) → cond b x y ≡ z → ((b ≡ true) × (x ≡ z)) ⊎ ((b ≡ false) × (y ≡ z))
chosen true x y z e = inl (refl, e)
chosen false x y z e = inr (refl, e)

same_bytes : (a b : List ℕ) → bytes_eq a b ≡ true → a ≡ b
same_bytes a b = (bytes_eq-Decides a b).0

-- what a reader of a line takes from words
abbrev Takes : Names → List (List ℕ) → Line → Type 0
Takes N ws l = IsPrintable N l × (ws ≡ line_words N l)

target_takes : (N : Names) (word : List ℕ) (to : Option ℕ) → target_of N word ≡ Some to → IfSome to (λ q. q < length N.points) × (word ≡ target_name N to)
unfolding target_of
target_takes N word to e = ⊎_elim
    (λ (p : (bytes_eq word (codes "-") ≡ true) × (Some None ≡ Some to)).
    let is : None ≡ to = same_Some _ _ p.1 in rw (← is) (tt, same_bytes _ _ p.0))
    (λ (p : (bytes_eq word (codes "-") ≡ false) × (option_map Some (called N.points word) ≡ Some to)). named N word (called N.points word) to refl p.1)
    (chosen (bytes_eq word (codes "-")) (Some None) (option_map Some (called N.points word)) (Some to) e)
  where
    named : (N : Names) (word : List ℕ) (o : Option ℕ) (to : Option ℕ) → called N.points word ≡ o → option_map Some o ≡ Some to → IfSome to (λ q. q < length N.points) × (word ≡ target_name N to)
    named N word None to e f = absurd (none-some to f)
    named N word (Some q) to e f = let is : Some q ≡ to = same_Some _ _ f in rw (← is) (let p = called_takes N.points word q e in (p.0, p.1))

move_takes : (N : Names) (ws : List (List ℕ)) (l : Line) → move_of N ws ≡ Some l → Takes N (codes "move" ∷ ws) l
unfolding move_of
move_takes N (train ∷ from ∷ to ∷ []) l e =
    let i = bind_some _ (called N.trains train) l e in
    let p = bind_some _ (called N.points from) l i.2 in
    let q = bind_some _ (target_of N to) l p.2 in
    let is : Move i.0 p.0 q.0 ≡ l = same_Some _ _ q.2 in
    let a = called_takes N.trains train i.0 i.1 in
    let b = called_takes N.points from p.0 p.1 in
    let c = target_takes N to q.0 q.1 in
    let ea : train ≡ train_name N i.0 = a.1 in
    let eb : from ≡ point_name N p.0 = b.1 in
    let ec : to ≡ target_name N q.0 = c.1 in
    rw (← is) ((a.0, b.0, c.0), cc)
move_takes N [] l e = absurd (none-some l e)
move_takes N (a ∷ []) l e = absurd (none-some l e)
move_takes N (a ∷ b ∷ []) l e = absurd (none-some l e)
move_takes N (a ∷ b ∷ c ∷ d ∷ more) l e = absurd (none-some l e)

table_takes : (N : Names) (ws : List (List ℕ)) (l : Line) → table_of ws ≡ Some l → Takes N (codes "table" ∷ ws) l
unfolding table_of
table_takes N (table ∷ []) l e =
    let t = bind_some _ (number_of table) l e in
    let is : Table t.0 ≡ l = same_Some _ _ t.2 in
    let a = number_takes table t.0 t.1 in
    rw (← is) (a.small, ap (λ x. codes "table" ∷ x ∷ []) a.text)
table_takes N [] l e = absurd (none-some l e)
table_takes N (a ∷ b ∷ more) l e = absurd (none-some l e)

differs_takes : (N : Names) (t : ℕ) (ws : List (List ℕ)) (l : Line) → t < 2 ^ 32 → differs_of N t ws ≡ Some l → Takes N (codes "kept" ∷ decimal t ∷ codes "differs" ∷ ws) l
unfolding differs_of
differs_takes N t (train ∷ place ∷ []) l small e =
    let i = bind_some _ (called N.trains train) l e in
    let k = bind_some _ (number_of place) l i.2 in
    let is : KeptDiffers t i.0 k.0 ≡ l = same_Some _ _ k.2 in
    let a = called_takes N.trains train i.0 i.1 in
    let b = number_takes place k.0 k.1 in
    rw (← is) ((small, a.0, b.small), ap (λ x. codes "kept" ∷ decimal t ∷ codes "differs" ∷ x ∷ place ∷ []) a.1 ∙ ap (λ x. codes "kept" ∷ decimal t ∷ codes "differs" ∷ train_name N i.0 ∷ x ∷ []) b.text)
differs_takes N t [] l small e = absurd (none-some l e)
differs_takes N t (a ∷ []) l small e = absurd (none-some l e)
differs_takes N t (a ∷ b ∷ c ∷ more) l small e = absurd (none-some l e)

over_takes : (N : Names) (t : ℕ) (ws : List (List ℕ)) (l : Line) → t < 2 ^ 32 → over_of t ws ≡ Some l → Takes N (codes "kept" ∷ decimal t ∷ codes "over" ∷ ws) l
unfolding over_of
over_takes N t (section ∷ count ∷ []) l small e =
    let s = bind_some _ (number_of section) l e in
    let n = bind_some _ (number_of count) l s.2 in
    let is : KeptOver t s.0 n.0 ≡ l = same_Some _ _ n.2 in
    let a = number_takes section s.0 s.1 in
    let b = number_takes count n.0 n.1 in
    rw (← is) ((small, a.small, b.small), ap (λ x. codes "kept" ∷ decimal t ∷ codes "over" ∷ x ∷ count ∷ []) a.text ∙ ap (λ x. codes "kept" ∷ decimal t ∷ codes "over" ∷ decimal s.0 ∷ x ∷ []) b.text)
over_takes N t [] l small e = absurd (none-some l e)
over_takes N t (a ∷ []) l small e = absurd (none-some l e)
over_takes N t (a ∷ b ∷ c ∷ more) l small e = absurd (none-some l e)

-- a test that comes first, with what it gives
branch : {P A : Type 0} (a b : List ℕ) (x y z : Option A) → cond (bytes_eq a b) x y ≡ z → (a ≡ b → x ≡ z → P) → (y ≡ z → P) → P
branch a b x y z e hit other = ⊎_elim (λ (p : (bytes_eq a b ≡ true) × (x ≡ z)). hit (same_bytes a b p.0) p.1) (λ (p : (bytes_eq a b ≡ false) × (y ≡ z)). other p.1) (chosen (bytes_eq a b) x y z e)

kept_takes : (N : Names) (ws : List (List ℕ)) (l : Line) → kept_of N ws ≡ Some l → Takes N (codes "kept" ∷ ws) l
unfolding kept_of
kept_takes N (table ∷ kind ∷ later) l e =
    let t = bind_some _ (number_of table) l e in
    let a = number_takes table t.0 t.1 in
    branch kind (codes "differs") _ _ (Some l) t.2
    (λ k f. let p = differs_takes N t.0 later l a.small f in (p.0, ap (λ x. codes "kept" ∷ x ∷ kind ∷ later) a.text ∙ ap (λ x. codes "kept" ∷ decimal t.0 ∷ x ∷ later) k ∙ p.1))
    (λ f. branch kind (codes "over") _ _ (Some l) f
    (λ k g. let p = over_takes N t.0 later l a.small g in (p.0, ap (λ x. codes "kept" ∷ x ∷ kind ∷ later) a.text ∙ ap (λ x. codes "kept" ∷ decimal t.0 ∷ x ∷ later) k ∙ p.1))
    (λ g. absurd (none-some l g)))
kept_takes N [] l e = absurd (none-some l e)
kept_takes N (a ∷ []) l e = absurd (none-some l e)

line_takes : (N : Names) (ws : List (List ℕ)) (l : Line) → line_of N ws ≡ Some l → Takes N ws l
unfolding line_of
line_takes N (kind ∷ later) l e =
    branch kind (codes "move") _ _ (Some l) e
    (λ k f. let p = move_takes N later l f in (p.0, ap (λ x. x ∷ later) k ∙ p.1))
    (λ f. branch kind (codes "table") _ _ (Some l) f
    (λ k g. let p = table_takes N later l g in (p.0, ap (λ x. x ∷ later) k ∙ p.1))
    (λ g. branch kind (codes "kept") _ _ (Some l) g
    (λ k h. let p = kept_takes N later l h in (p.0, ap (λ x. x ∷ later) k ∙ p.1))
    (λ h. absurd (none-some l h))))
line_takes N [] l e = absurd (none-some l e)

pub record Numbered (N : Names) (ws : List (List ℕ)) (n : ℕ) (l : Line) : Type 0 where
  pub number : n < 2 ^ 32
  pub line : IsPrintable N l
  pub are : ws ≡ decimal n ∷ line_words N l

renamed : (N : Names) (ws : List (List ℕ)) (m n : ℕ) (k l : Line) → m ≡ n → k ≡ l → Numbered N ws m k → Numbered N ws n l
renamed N ws m n k l e f p = subst (λ x. Numbered N ws x l) e (subst (λ x. Numbered N ws m x) f p)

pub numbered_takes : (N : Names) (ws : List (List ℕ)) (n : ℕ) (l : Line) → numbered_of N ws ≡ Some (n, l) → Numbered N ws n l
unfolding numbered_of
numbered_takes N (number ∷ later) n l e =
    let m = bind_some _ (number_of number) (n, l) e in
    let k = bind_some _ (line_of N later) (n, l) m.2 in
    let pair = same_Some {A = ℕ × Line} _ _ k.2 in
    let a = number_takes number m.0 m.1 in
    let p = line_takes N later k.0 k.1 in
    let en : m.0 ≡ n = ap (λ (x : ℕ × Line). x.0) pair in
    let el : k.0 ≡ l = ap (λ (x : ℕ × Line). x.1) pair in
    renamed N (number ∷ later) m.0 n k.0 l en el (record {
      number = a.small;
      line = p.0;
      are = ap (λ x. x ∷ later) a.text ∙ ap (λ x. decimal m.0 ∷ x) p.1;
    })
numbered_takes N [] n l e = absurd (none-some (n, l) e)

-- what the field of a name is
field_takes : (name word : List ℕ) (n : ℕ) → field_of name word ≡ Some n → (n < 2 ^ 32) × (word ≡ name ++ decimal n)
unfolding field_of
field_takes name word n e =
    branch (take (length name) word) name _ _ (Some n) e
    (λ k f. let a = number_takes (drop (length name) word) n f in (a.small, sym (take-append-drop (length name) word) ∙ ap (λ x. x ++ drop (length name) word) k ∙ ap (λ x. name ++ x) a.text))
    (λ f. absurd (none-some n f))

pub record Ended (ws : List (List ℕ)) (moves tables : ℕ) : Type 0 where
  pub few_moves : moves < 2 ^ 32
  pub few_tables : tables < 2 ^ 32
  pub are : ws ≡ end_words moves tables

renumbered : (ws : List (List ℕ)) (m n t u : ℕ) → m ≡ n → t ≡ u → Ended ws m t → Ended ws n u
renumbered ws m n t u e f p = subst (λ x. Ended ws x u) e (subst (λ x. Ended ws m x) f p)

pub end_takes : (ws : List (List ℕ)) (moves tables : ℕ) → end_of ws ≡ Some (moves, tables) → Ended ws moves tables
unfolding end_of
end_takes (kind ∷ m ∷ t ∷ []) moves tables e =
    branch kind (codes "end") _ _ (Some (moves, tables)) e
    (λ k f.
    let a = bind_some _ (field_of (codes "moves=") m) (moves, tables) f in
    let b = bind_some _ (field_of (codes "tables=") t) (moves, tables) a.2 in
    let pair = same_Some {A = ℕ × ℕ} _ _ b.2 in
    let em : a.0 ≡ moves = ap (λ (x : ℕ × ℕ). x.0) pair in
    let et : b.0 ≡ tables = ap (λ (x : ℕ × ℕ). x.1) pair in
    let p = field_takes (codes "moves=") m a.0 a.1 in
    let q = field_takes (codes "tables=") t b.0 b.1 in
    let ep : m ≡ codes "moves=" ++ decimal a.0 = p.1 in
    let eq : t ≡ codes "tables=" ++ decimal b.0 = q.1 in
    renumbered (kind ∷ m ∷ t ∷ []) a.0 moves b.0 tables em et (record { few_moves = p.0; few_tables = q.0; are = ap (λ x. x ∷ m ∷ t ∷ []) k ∙ ap (λ x. codes "end" ∷ x ∷ t ∷ []) ep ∙ ap (λ x. codes "end" ∷ (codes "moves=" ++ decimal a.0) ∷ x ∷ []) eq }))
    (λ f. absurd (none-some {A = ℕ × ℕ} (moves, tables) f))
end_takes [] moves tables e = absurd (none-some (moves, tables) e)
end_takes (a ∷ []) moves tables e = absurd (none-some (moves, tables) e)
end_takes (a ∷ b ∷ []) moves tables e = absurd (none-some (moves, tables) e)
end_takes (a ∷ b ∷ c ∷ d ∷ more) moves tables e = absurd (none-some (moves, tables) e)

-- The text of a line is its words with spaces between them.
pub joined : (N : Names) (n : ℕ) (l : Line) → join_with_byte 32 (decimal n ∷ line_words N l) ≡ decimal n ++ words N l
joined N n (Move i from to) = simp append_assoc
joined N n (Table t) = refl
joined N n (KeptDiffers t i k) = simp append_assoc
joined N n (KeptOver t s m) = simp append_assoc

-- the end line without its newline
abbrev pub end_content : ℕ → ℕ → List ℕ
end_content moves tables = codes "end moves=" ++ decimal moves ++ codes " tables=" ++ decimal tables

pub end_joined : (moves tables : ℕ) → join_with_byte 32 (end_words moves tables) ≡ end_content moves tables
end_joined moves tables = simp append_assoc

pub line_content : (N : Names) (content : List ℕ) (n : ℕ) (l : Line) → Numbered N (word_list content) n l → content ≡ decimal n ++ words N l
line_content N content n l p = sym (words_joined content) ∙ ap (join_with_byte 32) p.are ∙ joined N n l

pub end_content_is : (content : List ℕ) (moves tables : ℕ) → Ended (word_list content) moves tables → content ≡ end_content moves tables
end_content_is content moves tables p = sym (words_joined content) ∙ ap (join_with_byte 32) p.are ∙ end_joined moves tables

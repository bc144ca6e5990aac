-- Values that are read of tokens.
use Rattle.std.proofs.Common.{◌≡◌, ℕ, ◌-◌, ◌<◌, ◌≤◌, List, [], ◌∷◌, ◌++◌, length, Option, Some, None, option_map, option_and_then, refl, sym, ap, subst, ◌∙◌, arith, append_assoc, append-nil}
use Rattle.std.specs.Prelude.{IfSome}
use Rattle.std.specs.List.{AllZip}
use Rattle.json.specs.Token.{Token}
use Rattle.json.specs.Json as json
use Rattle.json.specs.Json.{parse_map, after_end_array, read_key, items, members, value}
use Rattle.json.proofs.Grammar.{left, value_is, value-begin_array, value-begin_object, items_more, items_end, members_more, members_end, read_key-shorter, skip_value-shorter}
use Rattle.serde_json.specs.Data.{Data, number, array, object, Items, no_items, item, Members, no_members, put}
use Rattle.serde_json.specs.Read.{of_json, of_items, of_members}
use Rattle.document_shapes.specs.Readings.{elements, ReadsPair}
use Rattle.document_shapes.specs.Shape.{Shape, whole, each, list_of}
use Rattle.document_shapes.specs.Taken.{number_read, Takes, TakesItems, TakesMembers, Opens, IsObjectWith, FindsAt}
use Rattle.document_shapes.proofs.NumberLemmas.{number_read-some}

-- ---- a value of one token

module _ {X : Type 0} (R : Data → X → Type 0) (depth : ℕ) (x : X) (tokens rest : List Token) where
  pub takes-token : (t : Token) (j : json.Json) (d : Data) → tokens ≡ t ∷ rest → value depth (t ∷ rest) ≡ Some (j, rest) → of_json j ≡ Some d → R d x → Takes R depth tokens x rest
  takes-token t j d first is same reads = (j, d, ap (value depth) first ∙ is, same, reads)

-- a number, read of its text
pub takes-number : {A : Type 0} (shape : Shape A) (depth : ℕ) (x : A) (tokens rest : List Token) (s : List ℕ) → tokens ≡ Token.number s ∷ rest → number_read shape s ≡ Some x
    → Takes (λ d y. shape d ≡ Some y) depth tokens x rest
takes-number shape depth x tokens rest s first reads =
    let k = number_read-some shape s x reads in
    (json.number s, number k.0, ap (value depth) first ∙ value_is depth (Token.number s ∷ rest), ap (option_map number) k.1, k.2)

-- the value that there may be, under a weaker claim
pub some_weaker : {A : Type 0} (o : Option A) (Q : A → Type 0) → ((x : A) → o ≡ Some x → Q x) → IfSome o Q
some_weaker None Q h = tt
some_weaker (Some x) Q h = h x refl

pub if_some : {A : Type 0} (o : Option A) (P Q : A → Type 0) → ((x : A) → P x → Q x) → IfSome o P → IfSome o Q
if_some None P Q h k = tt
if_some (Some x) P Q h k = h x k

pub value-string : (depth : ℕ) (s : List ℕ) (rest : List Token) → value depth (Token.string s ∷ rest) ≡ Some (json.string s, rest)
value-string depth s rest = value_is depth (Token.string s ∷ rest)

-- ---- what a value takes

pub takes-shorter : {X : Type 0} (R : Data → X → Type 0) (depth : ℕ) (x : X) (tokens rest : List Token) → Takes R depth tokens x rest → length rest < length tokens
takes-shorter R depth x tokens rest h = skip_value-shorter depth tokens rest (ap left h.2)

-- no value begins with the end of a list
no_value : {P : Type 0} (x : json.Json × List Token) → None ≡ Some x → P
no_value x e = absurd cc

takes-begins : (depth : ℕ) (tokens rest : List Token) (j : json.Json) → value depth tokens ≡ Some (j, rest) → after_end_array tokens ≡ None
takes-begins depth [] rest j e = refl
takes-begins depth (Token.begin_object ∷ ts) rest j e = refl
takes-begins depth (Token.end_object ∷ ts) rest j e = refl
takes-begins depth (Token.begin_array ∷ ts) rest j e = refl
takes-begins depth (Token.end_array ∷ ts) rest j e = no_value (j, rest) (sym (value_is depth (Token.end_array ∷ ts)) ∙ e)
takes-begins depth (Token.key s ∷ ts) rest j e = refl
takes-begins depth (Token.string s ∷ ts) rest j e = refl
takes-begins depth (Token.number s ∷ ts) rest j e = refl
takes-begins depth (Token.boolean b ∷ ts) rest j e = refl
takes-begins depth (Token.null ∷ ts) rest j e = refl
takes-begins depth (Token.bad ∷ ts) rest j e = refl

-- ---- lists

module _ {X : Type 0} (R : Data → X → Type 0) (depth : ℕ) (all : List Token) where
  -- The items so far were taken, and what is left gives those that follow.
  pub record ItemsTo (xs : List X) (rest : List Token) : Type 0 where
    pub turns : ℕ
    pub enough : length rest ≤ turns
    pub within : length rest ≤ length all
    pub goes : (js : json.Items) (ds : Items) (ys : List X) (end : List Token) → items (value depth) turns rest ≡ Some (js, end) → of_items js ≡ Some ds → AllZip R (elements ds) ys
        → TakesItems R depth all (xs ++ ys) end

  pub items_start : ItemsTo [] all
  items_start = record {
    turns = length all;
    enough = omega arith;
    within = omega arith;
    goes = λ js ds ys end e same reads. (js, ds, e, same, reads);
  }

  pub item_taken : (xs new : List X) (before rest : List Token) (x : X) → ItemsTo xs before → after_end_array before ≡ None → Takes R depth before x rest → new ≡ xs ++ x ∷ [] → ItemsTo new rest
  item_taken xs new before rest x h going taken added =
      let less = takes-shorter R depth x before rest taken in
      let some : 0 < h.turns = omega (arith, less, h.enough) in
      record {
        turns = h.turns - 1;
        enough = omega (arith, less, h.enough);
        within = omega (arith, less, h.within);
        goes = λ js ds ys end e same reads.
            subst (λ zs. TakesItems R depth all zs end) (sym (append_assoc xs (x ∷ []) ys) ∙ ap (λ zs. zs ++ ys) (sym added))
            (h.goes (json.item taken.0 js) (item taken.1 ds) (x ∷ ys) end
            (items_more (value depth) h.turns before rest taken.0 some going taken.2 ∙ ap (parse_map (json.item taken.0)) e)
            (ap (option_and_then (λ d. option_map (item d) (of_items js))) taken.3 ∙ ap (option_map (item taken.1)) same)
            (taken.4, reads));
      }

  pub items_done : (xs : List X) (before rest : List Token) → ItemsTo xs before → after_end_array before ≡ Some rest → TakesItems R depth all xs rest
  items_done xs before rest h ended =
      subst (λ zs. TakesItems R depth all zs rest) (append-nil xs)
      (h.goes json.no_items no_items [] rest (items_end (value depth) h.turns before rest h.enough ended) refl tt)

module _ {X : Type 0} (R : Data → X → Type 0) (depth : ℕ) where
  -- These values come first, one after another, and then the end of their list.
  abbrev pub Follow : List Token → List X → List Token → Type 0
  Follow tokens [] rest = after_end_array tokens ≡ Some rest
  Follow tokens (x ∷ xs) rest = (mid : List Token) × Takes R depth tokens x mid × Follow mid xs rest

  followed : (all : List Token) (done xs : List X) (tokens rest : List Token) → ItemsTo R depth all done tokens → Follow tokens xs rest → TakesItems R depth all (done ++ xs) rest
  followed all done [] tokens rest h ended = subst (λ ys. TakesItems R depth all ys rest) (sym (append-nil done)) (items_done R depth all done tokens rest h ended)
  followed all done (x ∷ xs) tokens rest h next =
      let taken = next.1 in
      let more = item_taken R depth all done (done ++ x ∷ []) tokens next.0 x h (takes-begins depth tokens next.0 taken.0 taken.2) taken refl in
      subst (λ ys. TakesItems R depth all ys rest) (append_assoc done (x ∷ []) xs) (followed all (done ++ x ∷ []) xs next.0 rest more next.2)

  pub follow-items : (tokens rest : List Token) (xs : List X) → Follow tokens xs rest → TakesItems R depth tokens xs rest
  follow-items tokens rest xs h = followed tokens [] xs tokens rest (items_start R depth tokens) h

module _ (depth inner : ℕ) (tokens mid : List Token) where
  opens-list : Opens Token.begin_array depth tokens inner mid → value depth tokens ≡ parse_map json.array (items (value inner) (length mid) mid)
  opens-list h =
      let some : 0 < depth = omega (arith, h.0) in
      let same : depth - 1 ≡ inner = omega (arith, h.0) in
      ap (value depth) h.1 ∙ value-begin_array depth mid some ∙ ap (λ k. parse_map json.array (items (value k) (length mid) mid)) same

  opens-object : Opens Token.begin_object depth tokens inner mid → value depth tokens ≡ parse_map json.object (members (value inner) (length mid) mid)
  opens-object h =
      let some : 0 < depth = omega (arith, h.0) in
      let same : depth - 1 ≡ inner = omega (arith, h.0) in
      ap (value depth) h.1 ∙ value-begin_object depth mid some ∙ ap (λ k. parse_map json.object (members (value k) (length mid) mid)) same

  -- a list is what its items are
  pub takes-list : {X Y : Type 0} (R : Data → X → Type 0) (S : Data → Y → Type 0) (xs : List X) (y : Y) (rest : List Token) → ((ds : Items) → AllZip R (elements ds) xs → S (array ds) y)
      → Opens Token.begin_array depth tokens inner mid → TakesItems R inner mid xs rest → Takes S depth tokens y rest
  takes-list R S xs y rest reads begins h =
      (json.array h.0, array h.1, opens-list begins ∙ ap (parse_map json.array) h.2, ap (option_map array) h.3, reads h.1 h.4)

  each_number : (ds : Items) (ns : List ℕ) → AllZip (λ d n. whole d ≡ Some n) (elements ds) ns → each whole ds ≡ Some ns
  each_number no_items [] h = refl
  each_number no_items (n ∷ ns) h = absurd h
  each_number (item d ds) [] h = absurd h
  each_number (item d ds) (n ∷ ns) h = rw (h.0, each_number ds ns h.1) refl

  -- a list of whole numbers is what the numbers stand for
  pub takes-numbers : {A : Type 0} (f : List ℕ → Option A) (ns : List ℕ) (x : A) (rest : List Token) → f ns ≡ Some x → Opens Token.begin_array depth tokens inner mid
      → TakesItems (λ d n. whole d ≡ Some n) inner mid ns rest → Takes (λ d y. option_and_then f (list_of whole d) ≡ Some y) depth tokens x rest
  takes-numbers f ns x rest is begins h =
      takes-list (λ d n. whole d ≡ Some n) (λ d y. option_and_then f (list_of whole d) ≡ Some y) ns x rest (λ ds z. ap (option_and_then f) (each_number ds ns z) ∙ is) begins h

  pub takes-followed : {A : Type 0} (f : List ℕ → Option A) (ns : List ℕ) (x : A) (rest : List Token) → f ns ≡ Some x → Opens Token.begin_array depth tokens inner mid
      → Follow (λ d n. whole d ≡ Some n) inner mid ns rest → Takes (λ d y. option_and_then f (list_of whole d) ≡ Some y) depth tokens x rest
  takes-followed f ns x rest is begins h = takes-numbers f ns x rest is begins (follow-items (λ d n. whole d ≡ Some n) inner mid rest ns h)

  -- an object is what its members are
  pub takes-object : {X : Type 0} (F : Members → X → Type 0) (x : X) (rest : List Token) → Opens Token.begin_object depth tokens inner mid → TakesMembers F inner mid x rest
      → Takes (λ d y. IsObjectWith F d y) depth tokens x rest
  takes-object F x rest begins h =
      (json.object h.0, object h.1, opens-object begins ∙ ap (parse_map json.object) h.2, ap (option_map object) h.3, h.4)

  module _ {A B : Type 0} (R : Data → A → Type 0) (S : Data → B → Type 0) (a : A) (b : B) where
    two_read : (x y : Data) (ds : Items) → R x a → S y b → AllZip (λ d e. d ≡ e) (elements ds) (x ∷ y ∷ []) → ReadsPair R S (array ds) (a, b)
    two_read x y no_items r s h = absurd h
    two_read x y (item d no_items) r s h = absurd h.1
    two_read x y (item d (item e no_items)) r s h = (subst (λ z. R z a) (sym h.0) r, subst (λ z. S z b) (sym h.1.0) s)
    two_read x y (item d (item e (item f ds))) r s h = absurd h.1.1

    -- a list of two values
    pub takes-pair : (second end rest : List Token) → Opens Token.begin_array depth tokens inner mid → Takes R inner mid a second → Takes S inner second b end → after_end_array end ≡ Some rest
        → Takes (λ d p. ReadsPair R S d p) depth tokens (a, b) rest
    takes-pair second end rest begins first next ended =
        let same : Data → Data → Type 0 = λ d e. d ≡ e in
        let one : Takes same inner mid first.1 second = (first.0, first.1, first.2, first.3, refl) in
        let two : Takes same inner second next.1 end = (next.0, next.1, next.2, next.3, refl) in
        let one_taken =
        item_taken same inner mid [] (first.1 ∷ []) mid second first.1 (items_start same inner mid) (takes-begins inner mid second first.0 first.2) one refl in
        let both_taken =
        item_taken same inner mid (first.1 ∷ []) (first.1 ∷ next.1 ∷ []) second end next.1 one_taken (takes-begins inner second end next.0 next.2) two refl in
        takes-list same (λ d p. ReadsPair R S d p) (first.1 ∷ next.1 ∷ []) (a, b) rest (λ ds h. two_read first.1 next.1 ds first.4 next.4 h) begins
        (items_done same inner mid (first.1 ∷ next.1 ∷ []) end rest both_taken ended)

-- ---- objects

module _ {X : Type 0} (F : Members → X → Type 0) (depth : ℕ) (all : List Token) where
  -- This is found of the members so far, and what is left gives those that follow.
  pub record MembersTo (x : X) (rest : List Token) : Type 0 where
    pub turns : ℕ
    pub enough : length rest ≤ turns
    pub within : length rest ≤ length all
    pub seen : Members
    pub finds : F seen x
    pub goes : (js : json.Members) (ms : Members) (end : List Token) → members (value depth) turns rest ≡ Some (js, end) → of_members js seen ≡ Some ms
        → (ks : json.Members) × (members (value depth) (length all) all ≡ Some (ks, end)) × (of_members ks no_members ≡ Some ms)

  pub members_start : (x : X) → F no_members x → MembersTo x all
  members_start x none = record {
    turns = length all;
    enough = omega arith;
    within = omega arith;
    seen = no_members;
    finds = none;
    goes = λ js ms end e same. (js, e, same);
  }

  pub member_taken : (x y : X) (before mid rest : List Token) (k : List ℕ) → MembersTo x before → read_key before ≡ Some (Some k, mid)
      → Takes (λ d z. FindsAt F k x d z) depth mid y rest → MembersTo y rest
  member_taken x y before mid rest k h key taken =
      let shorter = read_key-shorter before (Some k) mid key in
      let less = takes-shorter (λ d z. FindsAt F k x d z) depth y mid rest taken in
      let some : 0 < h.turns = omega (arith, shorter, h.enough) in
      record {
        turns = h.turns - 1;
        enough = omega (arith, shorter, less, h.enough);
        within = omega (arith, shorter, less, h.within);
        seen = put k taken.1 h.seen;
        finds = taken.4 h.seen h.finds;
        goes = λ js ms end e same.
            h.goes (json.member k taken.0 js) ms end
            (members_more (value depth) h.turns k before mid rest taken.0 some key taken.2 ∙ ap (parse_map (json.member k taken.0)) e)
            (ap (option_and_then (λ d. of_members js (put k d h.seen))) taken.3 ∙ same);
      }

  pub members_done : (x : X) (before rest : List Token) → MembersTo x before → read_key before ≡ Some (None, rest) → TakesMembers F depth all x rest
  members_done x before rest h ended =
      let last = h.goes json.no_members h.seen rest (members_end (value depth) h.turns before rest h.enough ended) refl in
      (last.0, h.seen, last.1, last.2, h.finds)

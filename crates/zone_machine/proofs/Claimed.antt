-- Who owes a cell claimed the zones of its last entry.
use Rattle.zone_machine.proofs.Prelude.{◌≡◌, ◌≢◌, ℕ, ◌==◌, List, [], ◌∷◌, ◌++◌, true, false, cond, refl, sym, ap, ◌∙◌, subst, inl, inr, append_assoc, is_none, Some, Entry, control, Cell, number_of, Setup, Actor, World, zones, known_table, driver_after, IsSetup, Is, IsUnheard, Sound}
use Rattle.std.proofs.Common.{set}
use Rattle.std.proofs.lemmas.Bool.{cond-true, cond-false}
use Rattle.std.proofs.lemmas.List.{append-nil}
use Rattle.move_claim.specs.declared.cells.Cell.TheVariants.{Table as TableCell}
use Rattle.zone_machine.specs.Entries.{control_after}
use Rattle.zone_machine.specs.Claiming.{entered, made, HasEntered}
use Rattle.zone_machine.proofs.Grants.{unheard-append}
use Rattle.zone_machine.proofs.InForce.{table_is}
use Rattle.zone_machine.proofs.Places.{at_set}

-- Who owes a cell has entered what it owes it for.
abbrev pub HaveEntered : Setup → World → Type 0
HaveEntered S w = (p : ℕ) (a : Actor) → Is w p a → a.owed ≢ [] → HasEntered S w.history p a

module _ (S : Setup) where
  -- who owes no cell that it didn't, is of the same entry
  same_entry : (H : List Entry) (p : ℕ) (a b : Actor) → b.claimed ≡ a.claimed → b.position ≡ a.position
      → ((c : Cell) (n : ℕ) → number_of c b.owed ≡ Some n → number_of c a.owed ≡ Some n) → HasEntered S H p a → HasEntered S H p b
  same_entry H p a b claims place owes e = record {
    before = e.before;
    steps = e.steps;
    so_far = e.so_far;
    later = e.later;
    at = e.at;
    last = e.last;
    under = e.under;
    stood = e.stood;
    answered = e.answered;
    claims = claims ∙ e.claims;
    place = place ∙ e.place;
    owes = λ c n h. e.owes c n (owes c n h);
  }

  -- an entry stays its actor's last one while others make theirs
  later_entries : (H more : List Entry) (p : ℕ) (a : Actor) → IsUnheard more p → HasEntered S H p a → HasEntered S (H ++ more) p a
  later_entries H more p a others e = record {
    before = e.before;
    steps = e.steps;
    so_far = e.so_far;
    later = e.later ++ more;
    at = ap (λ l. l ++ more) e.at ∙ append_assoc (e.so_far ++ made S p e.before e.steps) e.later more;
    last = unheard-append e.later more p e.last others;
    under = e.under;
    stood = e.stood;
    answered = e.answered;
    claims = e.claims;
    place = e.place;
    owes = e.owes;
  }

  module _ (w : World) (p : ℕ) (a : Actor) (s : Sound S w) (at : Is w p a) where
    -- what holds of each other actor, and of the one that makes the step as it is now
    each : (words : List ℕ) (H : List Entry) (b : Actor) → (b.owed ≢ [] → HasEntered S H p b) → ((q : ℕ) (x : Actor) → q ≢ p → HasEntered S w.history q x → HasEntered S H q x)
        → HaveEntered S (record { words = words; history = H; actors = set w.actors p b })
    each words H b own others q x is owes = elim (at_set w.actors p q b x is) [
      | inl t ↦ subst (λ (y : Actor). y.owed ≢ [] → HasEntered S H q y) t.1 (subst (λ n. b.owed ≢ [] → HasEntered S H n b) (sym t.0) own) owes
      | inr t ↦ others q x t.0 (s.entered q x t.1 owes)
    ]

    -- a step that makes no entry
    pub no_entry : (words : List ℕ) (b : Actor) → b.claimed ≡ a.claimed → b.position ≡ a.position → (b.owed ≢ [] → a.owed ≢ [])
        → ((c : Cell) (n : ℕ) → number_of c b.owed ≡ Some n → number_of c a.owed ≡ Some n) → HaveEntered S (record { words = words; history = w.history; actors = set w.actors p b })
    no_entry words b claims place owed owes =
        each words w.history b (λ some. same_entry w.history p a b claims place owes (s.entered p a at (owed some))) (λ q x ne e. e)

    module _ (ok : IsSetup S) (free : a.closing ≡ false) (knows : is_none (number_of TableCell a.known) ≡ false) where
      -- an entry is its actor's last one
      new_entry : (words : List ℕ) (entries : List Entry) (b : Actor) (n : ℕ) → made S p a n ≡ entries → entered S p a n ≡ b → b.claimed ≡ zones S p a (known_table a) n
          → ((q : ℕ) → q ≢ p → IsUnheard entries q) → HaveEntered S (record { words = words; history = w.history ++ entries; actors = set w.actors p b })
      new_entry words entries b n is after claims others = each words (w.history ++ entries) b (λ _. entry) (λ q x ne e. later_entries w.history entries q x (others q ne) e)
        where
          entry : HasEntered S (w.history ++ entries) p b
          entry = record {
            before = a;
            steps = n;
            so_far = w.history;
            later = [];
            at = ap (λ l. w.history ++ l) (sym is) ∙ sym (append-nil (w.history ++ made S p a n));
            last = λ k e h. absurd (cc h);
            under = table_is S w ok s p a at free knows;
            stood = s.places p a at;
            answered = λ e. s.answered a (subst (λ k. Is w k a) e at);
            claims = claims;
            place = ap (λ (x : Actor). x.position) (sym after);
            owes = λ c m h. subst (λ (x : Actor). number_of c x.owed ≡ Some m) (sym after) h;
          }

      pub driver_entry : (words : List ℕ) (entries : List Entry) (n : ℕ) → (p == control) ≡ false → made S p a n ≡ entries → ((q : ℕ) → q ≢ p → IsUnheard entries q)
          → HaveEntered S (record { words = words; history = w.history ++ entries; actors = set w.actors p (driver_after S p a n) })
      driver_entry words entries n driver is others =
          new_entry words entries (driver_after S p a n) n is (cond-false (p == control) (control_after S a) (driver_after S p a n) driver) refl others

      pub control_entry : (words : List ℕ) (entries : List Entry) → (p == control) ≡ true → made S p a 1 ≡ entries → ((q : ℕ) → q ≢ p → IsUnheard entries q)
          → HaveEntered S (record { words = words; history = w.history ++ entries; actors = set w.actors p (control_after S a) })
      control_entry words entries is_control is others =
          new_entry words entries (control_after S a) 1 is (cond-true (p == control) (control_after S a) (driver_after S p a 1) is_control) (sym (cond-true (p == control) _ _ is_control)) others

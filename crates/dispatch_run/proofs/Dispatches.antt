-- What a whole call comes to, by its header and its session.
use Rattle.std.proofs.Common.{◌≡◌, ◌⊎◌, ℕ, List, ◌++◌, None, Some, sym, ap, subst, inl, inr, ◌∙◌, arith, length-append}
use Rattle.std.specs.Prelude.{Option, IfSome}
use Rattle.std.specs.Io.KnownBytes.{Consumes}
use Rattle.std.proofs.KnownBytes.{Consumes-trans}
use Rattle.ats_io.specs.Bytes.{Adds}
use Rattle.line_service.specs.declared.server.ServeFault.{ServeFault}
use Rattle.line_service.specs.declared.server.ServeFault.TheVariants.{Memory, Read, Write}
use Rattle.line_service.specs.Answered.{IsEndless}
use Rattle.line_service.specs.Stopping.{Stops}
use Rattle.live_header.specs.declared.opening.Opened.{Opened}
use Rattle.live_header.specs.declared.scanning.Stage.{Stage}
use Rattle.live_header.specs.declared.scanning.Stage.TheVariants.{Live}
use Rattle.live_header.specs.Opening.{IsOpened}
use Rattle.live_header.specs.Scan.{Header, after_bytes}
use Rattle.live_header.proofs.ScannedBytes.{after_more, live_bytes}
use Rattle.dispatch_run.specs.declared.failure.Failure.TheVariants.{Broken}
use Rattle.dispatch_run.specs.Dispatching.{BreaksOffServing, IsCause, IsDispatched, IsServed, Sessions, header_of}

-- a whole header with more bytes after it
abbrev with_more : Header → List ℕ → Header
with_more h bytes = record h { line = h.line ++ bytes }

-- bytes after a whole header are its rest
live_more : (h : Header) (bytes : List ℕ) → h.stage ≡ Live → after_bytes h bytes ≡ with_more h bytes
live_more h bytes live =
    let same : h ≡ record h { stage = Live } = ap (λ (s : Stage). record h { stage = s }) live in
    ap (λ (x : Header). after_bytes x bytes) same ∙ live_bytes bytes h.document h.journal h.live h.line
    ∙ ap (λ (s : Stage). record h { stage = s; line = h.line ++ bytes }) (sym live)

-- the header of a longer input
longer : (document heard more : List ℕ) (h : Header) → h ≡ header_of document heard → h.stage ≡ Live
    → header_of document (heard ++ more) ≡ with_more h more
longer document heard more h is live =
    after_more _ heard more ∙ ap (λ (x : Header). after_bytes x more) (sym is) ∙ live_more h more live

-- it opens the same
opens_longer : (h : Header) (more : List ℕ) (opened : Opened) → IsOpened h opened → IsOpened (with_more h more) opened
opens_longer h more opened o = record {
  hash = o.hash;
  named = o.named;
  document = o.document;
  accepted = o.accepted;
  tables = o.tables;
  leads = o.leads;
  reports = o.reports;
}

module _ (Q : Sessions) where
  -- a call that ends well
  pub dispatched : (document heard : List ℕ) (h : Header) (opened : Opened) (held between old new : Option (List ℕ))
      → Consumes held between heard → h ≡ header_of document heard → h.stage ≡ Live → IsOpened h opened
      → IfSome between (λ input. (written : List ℕ) × IsServed Q opened (h.line ++ input) written
      × Adds old new written)
      → IfSome held (λ input. (written : List ℕ) × IsDispatched Q document input written × Adds old new written)
  dispatched document heard h opened None between old new gave is live opens served = tt
  dispatched document heard h opened (Some input) None old new gave is live opens served = absurd gave
  dispatched document heard h opened (Some input) (Some rest) old new gave is live opens (written, served, adds) =
      let all : header_of document input ≡ with_more h rest = ap (header_of document) gave
      ∙ longer document heard rest h is live in
      let part : IsDispatched Q document input written = record {
        whole = ap (λ (x : Header). x.stage) all ∙ live;
        opened = opened;
        opens = subst (λ (x : Header). IsOpened x opened) (sym all) (opens_longer h rest opened opens);
        served = subst (λ (x : Header). IsServed Q opened x.line written) (sym all) served;
      } in
      (written, part, adds)

  -- a fault in a part of a call is one in the call
  stops_later : (s : Q.State) (bytes : List ℕ) (source_failed source_now sink_failed sink_now : Type 0)
      (old new : Option (List ℕ)) (e : ServeFault)
      → (source_now → source_failed) → (sink_now → sink_failed)
      → Stops Q.answers Q.last s bytes source_now sink_now old new e
      → Stops Q.answers Q.last s bytes source_failed sink_failed old new e
  stops_later s bytes source_failed source_now sink_failed sink_now old new Memory source sink h = h
  stops_later s bytes source_failed source_now sink_failed sink_now old new Read source sink (so, says) =
      (source so, says)
  stops_later s bytes source_failed source_now sink_failed sink_now old new Write source sink (so, text) =
      (sink so, text)

  -- a session that broke off
  pub broken : (document heard more : List ℕ) (h : Header) (opened : Opened)
      (at_end failed failed_now sink_failed : Type 0) (held between left old new : Option (List ℕ)) (e : ServeFault)
      → Consumes held between heard → Consumes between left more → h ≡ header_of document heard → h.stage ≡ Live
      → IsOpened h opened
      → (failed_now → failed)
      → BreaksOffServing Q opened (h.line ++ more) (failed_now ⊎ IsEndless more) sink_failed old new e
      → (all : List ℕ) × Consumes held left all × IsCause Q document all at_end failed sink_failed old new (Broken e)
  broken document heard more h opened at_end failed failed_now sink_failed held between left old new e gave gave_more
      is live opens later breaks =
      let all = heard ++ more in
      let same : header_of document all ≡ with_more h more = longer document heard more h is live in
      let source : failed_now ⊎ IsEndless more → failed
      ⊎ IsEndless all = λ so. elim so [
        | inl now ↦ inl (later now)
        | inr long ↦ inr
            (omega (arith, long, length-append heard more))
      ] in
      let broke : BreaksOffServing Q opened (h.line ++ more)
      (failed ⊎ IsEndless all) sink_failed old new e = elim breaks [
        | inl none ↦ inl none
        | inr began ↦ inr (
          began.0,
          began.1,
          elim began.2 [
            | inl none ↦ inl none
            | inr talked ↦ inr (
              talked.0,
              talked.1,
              elim talked.2 [
                | inl first ↦ inl first
                | inr after ↦ inr (
                  after.0,
                  after.1,
                  stops_later began.0 (h.line ++ more) (failed ⊎ IsEndless all)
                      (failed_now ⊎ IsEndless more) sink_failed sink_failed after.0 new e source (λ so. so) after.2,
                )
              ],
            )
          ],
        )
      ] in (
        all,
        Consumes-trans held between left heard more gave gave_more,
        (
          ap (λ (x : Header). x.stage) same ∙ live,
          (
            opened,
            subst (λ (x : Header). IsOpened x opened) (sym same) (opens_longer h more opened opens),
            subst (λ (x : Header). BreaksOffServing Q opened x.line (failed ⊎ IsEndless all) sink_failed old new e)
                (sym same) broke,
          ),
        ),
      )

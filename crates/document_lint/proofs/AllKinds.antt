-- Each fact that holds of a document is of a kind that is looked for.
use Rattle.std.proofs.Common.{inl, inr, refl}
use Rattle.document_json.specs.Doc.{Doc}
use Rattle.document_facts.specs.Facts.{Holds}
use Rattle.document_facts.specs.Former.{HoldsSince, OfLost}
use Rattle.document_facts.specs.Kinds.{OfDocument}
use Rattle.document_facts.specs.declared.fact.Fact.{Fact}
use Rattle.document_facts.specs.declared.fact.Fact.TheVariants.{Refused, Member, PointUnused, LinkUnused, MoreLinksUnused, ZoneUnused, EndsAsEarlier, LikeShares, SectionUnused, SectionIdle, SectionRepeated, Overfilled, KeptForGood, OverfullAtEnd, ConnectionMet, ConnectionPassed, NeverDue, FormerRefused, SectionLost}

pub of_document : (D : Doc) (f : Fact) → Holds D f → OfDocument D f
of_document D (PointUnused q) h = inl (inl (inl (inl (q, h.0, (refl, h)))))
of_document D (LinkUnused k) h = inl (inl (inl (inr (inl (k, h.0, (refl, h))))))
of_document D (MoreLinksUnused more) h = inl (inl (inl (inr (inr (more, (refl, h))))))
of_document D (ZoneUnused z) h = inl (inl (inr (z, h.0, (refl, h))))
of_document D (EndsAsEarlier t i j) h = inl (inr (t, h.0.0, inl (inl (i, h.0.1, (j, (refl, h))))))
of_document D (LikeShares t s i) h = inl (inr (t, h.0.0.0, inl (inr (s, h.0.0.1, inl (inl (inl (inl (i, h.0.1, (refl, h)))))))))
of_document D (SectionUnused t s) h = inl (inr (t, h.0.0, inl (inr (s, h.0.1, inl (inl (inl (inr (inl (refl, h)))))))))
of_document D (SectionIdle t s) h = inl (inr (t, h.0.0, inl (inr (s, h.0.1, inl (inl (inl (inr (inr (refl, h)))))))))
of_document D (SectionRepeated t s r) h = inl (inr (t, h.0.0, inl (inr (s, h.0.1, inl (inl (inr (r, (refl, h))))))))
of_document D (Overfilled t s i) h = inl (inr (t, h.0.0.0, inl (inr (s, h.0.0.1, inl (inr (i, h.0.1, inl (refl, h)))))))
of_document D (KeptForGood t s i) h = inl (inr (t, h.0.0.0, inl (inr (s, h.0.0.1, inl (inr (i, h.0.1, inr (refl, h)))))))
of_document D (OverfullAtEnd t s) h = inl (inr (t, h.0.0, inl (inr (s, h.0.1, inr (refl, h)))))
of_document D (ConnectionMet t c) h = inl (inr (t, h.0.0, inr (c, h.0.1, inl (refl, h))))
of_document D (ConnectionPassed t c) h = inl (inr (t, h.0.0, inr (c, h.0.1, inr (refl, h))))
of_document D (NeverDue t) h = inr (t, h.0, (refl, h))
of_document D Refused h = absurd h
of_document D (Member what) h = absurd h
of_document D FormerRefused h = absurd h
of_document D (SectionLost t s) h = absurd h

-- Each section that is gone is of a kind that is looked for.
pub of_lost : (D F : Doc) (f : Fact) → HoldsSince D F f → OfLost D F f
of_lost D F (SectionLost t s) h = (t, h.0.0, (s, h.0.1, (refl, h)))
of_lost D F Refused h = absurd h
of_lost D F (Member what) h = absurd h
of_lost D F (PointUnused q) h = absurd h
of_lost D F (LinkUnused k) h = absurd h
of_lost D F (MoreLinksUnused more) h = absurd h
of_lost D F (ZoneUnused z) h = absurd h
of_lost D F (EndsAsEarlier t i j) h = absurd h
of_lost D F (LikeShares t s i) h = absurd h
of_lost D F (SectionUnused t s) h = absurd h
of_lost D F (SectionIdle t s) h = absurd h
of_lost D F (SectionRepeated t s r) h = absurd h
of_lost D F (Overfilled t s i) h = absurd h
of_lost D F (KeptForGood t s i) h = absurd h
of_lost D F (OverfullAtEnd t s) h = absurd h
of_lost D F (ConnectionMet t c) h = absurd h
of_lost D F (ConnectionPassed t c) h = absurd h
of_lost D F (NeverDue t) h = absurd h
of_lost D F FormerRefused h = absurd h

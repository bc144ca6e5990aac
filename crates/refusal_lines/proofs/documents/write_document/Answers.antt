use Rattle.refusal_lines.proofs.documents.write_document.Goals as goal

pub returns-in-TimesLength : goal.returns-in-TimesLength
returns-in-TimesLength c = rw c.in-TimesLength.is c.write_fields-in-TimesLength.ensures

pub returns-in-TimesValue : goal.returns-in-TimesValue
returns-in-TimesValue c = rw c.in-TimesValue.is c.write_fields-in-TimesValue.ensures

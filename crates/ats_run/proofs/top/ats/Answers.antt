use Rattle.ats_run.proofs.Completing.{ends}
use Rattle.ats_run.proofs.Writing.{documents, runs, runs_alone, runs_by, drills}
use Rattle.ats_run.proofs.top.ats.Goals as goal

pub returns-in-Err-clause-complete : goal.returns-in-Err-clause-complete
returns-in-Err-clause-complete g c = λ order input asked held good no_source no_sink.
    ends _ order input (record { asked = asked; held = held; good = good; source = no_source; sink = no_sink })
    c.in-Err.failure c.refuse.result c.status.result c.in-Err.ensures.cause c.refuse.ensures.kept c.status.ensures

pub returns-in-Ok-clause-documents : goal.returns-in-Ok-clause-documents
returns-in-Ok-clause-documents g c = λ order done asked writes. documents _ _ _ _ order asked writes c.in-Ok.ensures.done

pub returns-in-Ok-clause-headline : goal.returns-in-Ok-clause-headline
returns-in-Ok-clause-headline g c = λ workers rounds block done asked. runs _ _ _ _ workers rounds block asked c.in-Ok.ensures.done

pub returns-in-Ok-clause-round_robin : goal.returns-in-Ok-clause-round_robin
returns-in-Ok-clause-round_robin g c = λ rounds block done asked. runs_alone _ _ _ _ rounds block asked c.in-Ok.ensures.done

pub returns-in-Ok-clause-by_workers : goal.returns-in-Ok-clause-by_workers
returns-in-Ok-clause-by_workers g c = λ workers rounds block done asked. runs_by _ _ _ _ workers rounds block asked c.in-Ok.ensures.done

pub returns-in-Ok-clause-drill : goal.returns-in-Ok-clause-drill
returns-in-Ok-clause-drill g c = λ seed trains workers done asked. drills _ _ _ _ seed trains workers asked c.in-Ok.ensures.done

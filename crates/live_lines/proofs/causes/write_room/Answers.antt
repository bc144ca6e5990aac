use Rattle.std.proofs.Common.{◌≡◌, ◌++◌, append_assoc, refl, string_bytes, OnOk, subst, ap, ◌∙◌}
use Rattle.live_lines.specs.Told.{room_words, trains_words}
use Rattle.live_lines.proofs.causes.write_room.Goals as goal

pub returns : goal.returns
returns c =
    let by = trains_words c.args.names.now c.args.room.by.now in
    let whole : string_bytes c.write.new.self ++ by ≡ string_bytes c.args.out.now ++ room_words c.args.names.now
    c.args.room =
    ap (λ front. front ++ by) c.in_ok-write.ensures.bytes ∙ simp (append_assoc) refl in
    subst (λ bytes. OnOk c.write_trains.result (string_bytes c.write_trains.new.out ≡ bytes)) whole
    c.write_trains.ensures

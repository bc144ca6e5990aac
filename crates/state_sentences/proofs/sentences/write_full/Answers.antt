use Rattle.std.proofs.Common.{◌≡◌, ◌++◌, ◌+◌, ℕ, string_bytes, OnOk, subst, ap}
use Rattle.std.specs.Fmt.{signed_decimal}
use Rattle.rail_model.specs.Table.{trains, place, change, limit}
use Rattle.state_sentences.specs.Explanation.{joined_below, holder_words, room_words, taken_words, full_words}
use Rattle.state_sentences.proofs.Joined.{four_joined}
use Rattle.state_sentences.proofs.sentences.write_full.Goals as goal

pub returns : goal.returns
returns c =
    let N = c.args.scene.now.names.now in
    let S = c.args.sections.now in
    let T = c.args.scene.now.table.now in
    let p = c.args.scene.now.state.now in
    let i = c.args.train in
    let s = c.args.section in
    let n = c.args.count in
    let before = string_bytes c.args.out.now in
    let holders = joined_below (holder_words N T p s) (trains T) in
    let need = λ (k : ℕ). signed_decimal (change T i s (k + 1)) in
    let whole : string_bytes c.write_taken.new.out ++ holders ≡ before ++ full_words N S T p i s n =
    four_joined before (room_words S s) (need c.place-place.result) (taken_words n c.limit_of-limit.result) holders (string_bytes c.write_room.new.out)
    (string_bytes c.write_need.new.out) (string_bytes c.write_taken.new.out) (need (place p i)) (taken_words n (limit T s))
    c.in_ok-write_room.ensures c.in_ok-write_need.ensures c.in_ok-write_taken.ensures (ap need c.place-place.ensures.place)
    (ap (λ (l : ℕ). taken_words n l) c.limit_of-limit.ensures.limit) in
    subst (λ bytes. OnOk c.write_holders.result (string_bytes c.write_holders.new.out ≡ bytes)) whole c.write_holders.ensures

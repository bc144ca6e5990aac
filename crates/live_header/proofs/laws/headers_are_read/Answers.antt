use Rattle.live_header.proofs.ScannedBytes.{whole_header}
use Rattle.live_header.proofs.laws.headers_are_read.Goals as goal

pub returns : goal.returns
returns c document journal live rest others no_journal given no_live one begins =
    whole_header document journal live rest others no_journal given no_live one begins

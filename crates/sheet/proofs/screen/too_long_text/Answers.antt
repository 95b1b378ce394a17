use Rattle.sheet.proofs.ScreenLaws.{refusal_text}
use Rattle.sheet.proofs.screen.too_long_text.Goals as goal

pub returns : goal.returns
returns c = refusal_text _ _ c.refusal.ensures c.printed.ensures

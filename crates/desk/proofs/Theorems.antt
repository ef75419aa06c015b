-- The claims of specs/Claims, each under its name in small letters. Assumes nothing.
use Rattle.printing.proofs.Zeros.{no_zero_append}
use Rattle.report.specs.Report.{report}
use Rattle.report.proofs.Zeros.{report_no_zero}
use Rattle.exhibits.proofs.Zeros.{exhibits_no_zero}
use Rattle.desk.specs.Conclusion.{of_text}
use Rattle.desk.specs.Evidence.{text_exhibits}
use Rattle.desk.specs.Claims.{ReportFits, EvidenceFits, TextPossible, NoZeroPrinted, ReuseShown, RacesShown}
use Rattle.desk.proofs.Demands as demands
use Rattle.desk.proofs.Reports.{text_fits}
use Rattle.desk.proofs.Evidenced.{all_fits, ten_so, eleven_so}

pub report_fits : ReportFits
report_fits = text_fits

pub evidence_fits : EvidenceFits
evidence_fits = all_fits

pub text_possible : TextPossible
text_possible = demands.text_possible

pub no_zero_printed : NoZeroPrinted
unfolding text_exhibits
no_zero_printed text = no_zero_append (report (of_text text)) (text_exhibits text) (report_no_zero (of_text text)) (exhibits_no_zero _ _ _ _ _ _)

pub reuse_shown : ReuseShown
reuse_shown = ten_so

pub races_shown : RacesShown
races_shown = eleven_so

pub mod TextToRun
